-- One turn of the code's loop: the command that a list starts with, after what the commands before it have set. proofs/Walk.antt shows that
-- turn by turn this is the reading.
use Rattle.std.specs.Prelude.{ℕ, zero, suc, ◌+◌, ◌-◌, ◌^◌, ◌<◌, ◌≤◌, ◌≡◌, Bool, not, ◌&&◌, List, [], ◌∷◌, length, get_or, drop, ltb, eqb, Result, Ok, Err}
use Rattle.chips.specs.declared.Chip.{Chip}
use Rattle.command.specs.declared.State.{State}
use Rattle.command.specs.Kinds.{kind_of, total_of, head_of}
use Rattle.command.specs.Order.{Command, object_count, state_after}
use Rattle.judge.specs.Refusals.{Verdict, no_fault, judge_of, header_verdict}
use Rattle.judge.specs.declared.Fault.{Fault}
use Rattle.reading.specs.declared.Halt.{Halt}
use Rattle.reading.specs.declared.Halt.TheVariants.{Faulty, End}
use Rattle.reading.specs.declared.Place.{Place}
use Rattle.reading.specs.Reading.{Reading, reading, stopped, by_verdict, after_verdict, command_at}
use Rattle.chips.specs.Refusals.{number_of_refusal}
use Rattle.reading.specs.Decision.{Scanned, Stopped, Ended, scanned}

-- What one command leads to: a refusal at a dword of it, the end, or the next command after so many dwords.
pub data Turn : Type 0 where
  Refused : Fault → Turn
  Last : Turn
  Next : ℕ → State → Turn

-- What some commands lead to, as the code answers it: a refusal at a dword of the first of them, the end, or where reading goes on.
abbrev pub Step : Type 0
Step = Result Place Halt

abbrev pub on : ℕ → State → Step
on at st = Ok (record { at = at; st = st })

abbrev pub turned : Verdict → ℕ → List ℕ → State → Turn
turned v k l st = by_verdict Refused Last (Next (total_of k (get_or l 0 0)) (state_after k (head_of k l) st)) k v

unfoldable pub turn_of : List ℕ → State → Turn
turn_of l st = let k = kind_of st.chip (get_or l 0 0) in turned (judge_of k (length l) (head_of k l) st) k l st

-- the command that a list starts with
abbrev pub here : List ℕ → ℕ → State → Command
here l at st = command_at (kind_of st.chip (get_or l 0 0)) l at st

-- A turn of the first pass is at a place of the batch b; one command more does not overflow what is counted.
abbrev pub TurnAt : List ℕ → ℕ → State → Type 0
TurnAt b at st = (at < length b) × (length b < 2 ^ 32) × (st.commands + 1 < 2 ^ 32) × (st.objects + 1 < 2 ^ 32)

-- the command at a place starts with the dword d, and is of kind k in the chip's table
abbrev pub StartsWith : Chip → List ℕ → ℕ → ℕ → ℕ → Type 0
StartsWith c b at k d = (d ≡ get_or b at 0) × (k ≡ kind_of c d)

-- What is left of a pass: `read`, with what the commands before have set in place of their list. `read_walk` of proofs/Walk.antt shows that
-- it is the reading.
unfoldable pub walk : List ℕ → ℕ → ℕ → State → Reading
walk [] n at st = reading [] (stopped 2 at)
walk (d ∷ ds) (suc n) at st = walk ds n (at + 1) st
walk (d ∷ ds) zero at st =
    let k = kind_of st.chip d in
    let c = command_at k (d ∷ ds) at st in
    after_verdict (judge_of k (length (d ∷ ds)) c.head st) c (walk ds (c.total - 1) (at + 1) (state_after k c.head st))

-- what is found, where n commands with o objects among them stand before a reading
abbrev pub scanned_after : ℕ → ℕ → Reading → Scanned
scanned_after n o r = scanned (n + length r.passed) (o + object_count r.passed) r.stop

-- the same by what a state counts
abbrev pub scanned_at : State → Reading → Scanned
scanned_at st r = scanned_after st.commands st.objects r

-- what the first pass finds from a place of the batch b on
abbrev pub scan_from : List ℕ → ℕ → State → Scanned
scan_from b at st = scanned_at st (walk (drop at b) 0 at st)

-- what the loops keep: a place of the batch b, or its end, and no more commands before it than dwords
abbrev pub Within : List ℕ → ℕ → State → Type 0
Within b at st = (at ≤ length b) × (st.commands ≤ at) × (st.objects ≤ at)

-- a turn at a place, as a step
abbrev pub step_of : ℕ → Turn → Step
step_of at (Refused f) = Err (Faulty f)
step_of at Last = Err End
step_of at (Next t s) = on (at + t) s

-- what a step from a place leads to, and where it goes on: from a place at or after `low`
abbrev pub found_by : List ℕ → ℕ → State → Step → Scanned
found_by b at st (Err (Faulty f)) = Stopped (number_of_refusal f.refusal) (at + f.skip)
found_by b at st (Err End) = Ended (st.commands + 1) (at + 1) st.objects
found_by b at st (Ok p) = scan_from b p.at p.st

abbrev pub Beyond : List ℕ → ℕ → Step → Type 0
Beyond b low (Err h) = Unit
Beyond b low (Ok p) = (low ≤ p.at) × Within b p.at p.st

-- a step over one or more commands finds what the pass finds, and gets on
abbrev pub Steps : List ℕ → ℕ → State → Step → Type 0
Steps b at st r = (found_by b at st r ≡ scan_from b at st) × Beyond b (at + 1) r

-- rows 3 and 4 let a command of kind k with first dword d pass, which is not END
pub record Header (c : Chip) (k d : ℕ) : Type 0 where
  pub kind : k ≡ kind_of c d
  pub goes : k ≡ 2 → ⊥
  pub allowed : header_verdict k d (total_of k d) ≡ no_fault

-- does a command of t dwords with first dword d stand at a place?
unfoldable pub stands_at : List ℕ → ℕ → ℕ → ℕ → Bool
stands_at b at t d = not (ltb (length b - at) t) && eqb (get_or b at 0) d

-- from a place on, the same is found from where reading goes on
abbrev pub Same : List ℕ → ℕ → State → Place → Type 0
Same b at st p = (scan_from b p.at p.st ≡ scan_from b at st) × (at ≤ p.at) × Within b p.at p.st

-- n no-ops stand from a place on
pub record NoOps (b : List ℕ) (at n : ℕ) : Type 0 where
  pub inside : at + n ≤ length b
  pub each : (j : ℕ) → j < n → get_or b (at + j) 0 ≡ 0
