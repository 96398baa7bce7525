-- The reading one dword at a time: document 02, Three, "One driver hands over its ring cut at any dword." What a dword that comes changes;
-- proofs/Fold.antt shows that dword by dword this is the reading of the whole batch (`fold_reading`).
use Rattle.std.specs.Prelude.{ℕ, ◌+◌, ◌/◌, cond, List, [], ◌∷◌, length, get_or, set, ltb, eqb, Ok, Err}
use Rattle.command.specs.declared.State.{State}
use Rattle.command.specs.Kinds.{kind_of, total_of, own_dwords}
use Rattle.command.specs.Order.{Command, command_of, state_after}
use Rattle.chips.specs.Refusals.{number_of_refusal}
use Rattle.judge.specs.declared.Fault.{Fault}
use Rattle.judge.specs.Refusals.{Verdict, judge_of, header_verdict}
use Rattle.record.specs.Record.{record_of}
use Rattle.reading.specs.Reading.{Stop, ended, stopped}
use Rattle.records.specs.Records.{put_words}
use Rattle.progress.specs.declared.Progress.{Progress}

-- kind and total of the command with own dwords h
abbrev pub kind_in : State → List ℕ → ℕ
kind_in st h = kind_of st.chip (get_or h 0 0)

abbrev pub total_in : State → List ℕ → ℕ
total_in st h = total_of (kind_in st h) (get_or h 0 0)

-- no own dwords yet
abbrev pub none : List ℕ
none = 0 ∷ 0 ∷ 0 ∷ 0 ∷ 0 ∷ 0 ∷ 0 ∷ 0 ∷ []

-- a command's first dword alone
abbrev pub alone : ℕ → List ℕ
alone d = set none 0 d

-- the own dwords h after one dword more, where g of the command have come before it: inline data is passed over
unfoldable pub gathered : State → List ℕ → ℕ → ℕ → List ℕ
gathered st h g d = cond (ltb g (own_dwords (kind_in st h))) (set h g d) h

-- What a dword does while reading goes on: with it the command shows a fault (a number, and a place from its first dword on); or is not
-- whole yet, with own dwords h and g dwords in all; or passes, with own dwords h.
pub data Change : Type 0 where
  fault : ℕ → ℕ → Change
  unfinished : List ℕ → ℕ → Change
  passes : List ℕ → Change

abbrev pub faulted : Fault → Change
faulted f = fault (number_of_refusal f.refusal) f.skip

abbrev pub judged : Verdict → List ℕ → Change
judged (Err f) h = faulted f
judged (Ok u) h = passes h

-- a whole command is judged, by rows 3 to 9
abbrev pub settled : State → List ℕ → Change
settled st h = judged (judge_of (kind_in st h) (total_in st h) h st) h

-- g dwords of a command have come, its own dwords among them h. Before it is whole it is not judged: 5, "command runs past the slice",
-- stands before 6 to 9.
unfoldable pub come : State → List ℕ → ℕ → Change
come st h g = cond (ltb g (total_in st h)) (unfinished h g) (settled st h)

-- a command's first dword: rows 3 and 4 go by it alone, and a header that they refuse has no total
abbrev pub begun : Verdict → State → ℕ → Change
begun (Err f) st d = faulted f
begun (Ok u) st d = come st (alone d) 1

unfoldable pub beginning : State → ℕ → Change
beginning st d = let k = kind_of st.chip d in begun (header_verdict k d (total_of k d)) st d

abbrev pub change_of : Progress → ℕ → Change
change_of c d = cond (eqb c.got 0) (beginning c.st d) (come c.st (gathered c.st c.own c.got d) (c.got + 1))

-- Reading stopped at END: `stop` is 0 while it goes on, and else the number of a refusal or this, which is no refusal's number.
abbrev pub at_end : ℕ
at_end = 255

-- between two commands, the next of which stands at a place
abbrev pub between : State → ℕ → Progress
between st at = record { st = st; own = none; place = at; got = 0; stop = 0 }

-- What a change leaves, of a command at a place after what st says: reading stops at a fault; goes on in the command; or goes on after
-- it, but for END, where it stops after so many dwords.
unfoldable pub after_change : State → ℕ → Change → Progress
after_change st at (fault m s) = record { st = st; own = none; place = at + s; got = 0; stop = m }
after_change st at (unfinished h g) = record { st = st; own = h; place = at; got = g; stop = 0 }
after_change st at (passes h) =
    let k = kind_in st h in
    record { st = state_after k h st; own = none; place = at + total_in st h; got = 0; stop = cond (eqb k 2) at_end 0 }

-- the command that passes
abbrev pub whole : State → ℕ → List ℕ → Command
whole st at h = command_of (kind_in st h) at (total_in st h) h st

-- "as many as fit": the words of record i, where the record buffer r has room for them
unfoldable pub fitted : List ℕ → ℕ → List ℕ → List ℕ
fitted r i ws = cond (ltb i (length r / 16)) (put_words set r i ws 16) r

-- "Records are written as commands pass": the record buffer after a change
unfoldable pub written_by : State → ℕ → Change → List ℕ → List ℕ
written_by st at (fault m s) r = r
written_by st at (unfinished h g) r = r
written_by st at (passes h) r = fitted r st.commands (record_of (whole st at h))

-- how far reading has come, and the record buffer
pub record Stage : Type 0 where
  pub progress : Progress
  pub records : List ℕ

abbrev pub stage : Progress → List ℕ → Stage
stage c r = record { progress = c; records = r }

abbrev pub by_change : State → ℕ → Change → List ℕ → Stage
by_change st at e r = stage (after_change st at e) (written_by st at e r)

-- one dword, which changes nothing once reading has stopped
unfoldable pub step_on : Stage → ℕ → Stage
step_on s d = let c = s.progress in cond (eqb c.stop 0) (by_change c.st c.place (change_of c d) s.records) s

-- dwords one after the other
unfoldable pub stage_after : Stage → List ℕ → Stage
stage_after s [] = s
stage_after s (d ∷ ds) = stage_after (step_on s d) ds

-- How reading stopped, if no more dwords come: by `stop`, how many dwords have come of a command that is not whole, and the place. 2:
-- "slice used up before END (place: its length)"; 5: "command runs past the slice".
unfoldable pub stop_by : ℕ → ℕ → ℕ → Stop
stop_by stop got place =
    cond (eqb stop 0) (cond (eqb got 0) (stopped 2 place) (stopped 5 place))
    (cond (eqb stop at_end) (ended place) (stopped stop place))

abbrev pub stop_of : Progress → Stop
stop_of c = stop_by c.stop c.got c.place
