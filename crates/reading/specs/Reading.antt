-- The one reading of a batch, over its list of dwords: the commands passed, and how reading stopped. The answer and the records are
-- functions of it. It has no limit of length and no room for records in it: 1, 10 and 17 stand in Decision.antt.
use Rattle.std.specs.Prelude.{ℕ, zero, suc, ◌+◌, ◌-◌, cond, List, [], ◌∷◌, length, get_or, eqb, Ok, Err}
use Rattle.chips.specs.declared.Target.{Target}
use Rattle.command.specs.declared.State.{State}
use Rattle.command.specs.Kinds.{kind_of, total_of, head_of}
use Rattle.command.specs.Order.{Command, command_of, state_of}
use Rattle.chips.specs.Refusals.{number_of_refusal}
use Rattle.judge.specs.declared.Fault.{Fault}
use Rattle.judge.specs.Refusals.{Verdict, judge_of}

-- "reading stops at END, a fault or the slice's end": after so many dwords, or with the number and place of a refusal
pub data Stop : Type 0 where
  ended : ℕ → Stop
  stopped : ℕ → ℕ → Stop

-- a batch read to its END
abbrev pub Whole : Stop → Type 0
Whole (ended d) = Unit
Whole (stopped m p) = ⊥

pub record Reading : Type 0 where
  pub passed : List Command
  pub stop : Stop

abbrev pub reading : List Command → Stop → Reading
reading cs s = record { passed = cs; stop = s }

-- a command passed, then the rest
abbrev pub and_then : Command → Reading → Reading
and_then c r = reading (c ∷ r.passed) r.stop

-- the command of kind k that the list l starts with, which stands at a place
abbrev pub command_at : ℕ → List ℕ → ℕ → State → Command
command_at k l at st = command_of k at (total_of k (get_or l 0 0)) (head_of k l) st

-- What a verdict on a command of kind k leads to: a fault's, END's or any other command's.
abbrev pub by_verdict : {A : Type 0} → (Fault → A) → A → A → ℕ → Verdict → A
by_verdict fault end next k (Err f) = fault f
by_verdict fault end next k (Ok u) = cond (eqb k 2) end next

-- The command c by its verdict: "The first faulty command decides"; END ends the batch; any other command, then the rest.
abbrev pub after_verdict : Verdict → Command → Reading → Reading
after_verdict v c rest =
    by_verdict (λ f. reading [] (stopped (number_of_refusal f.refusal) (c.place + f.skip))) (reading (c ∷ []) (ended (c.place + 1))) (and_then c rest) c.kind v

-- The list that is left of a batch, which starts at a place, after the commands cs, the nearest first. n counts the dwords that the
-- last command still has. 2: "slice used up before END (place: its length)".
unfoldable pub read : Target → List ℕ → ℕ → ℕ → List Command → Reading
read target [] n at cs = reading [] (stopped 2 at)
read target (d ∷ ds) (suc n) at cs = read target ds n (at + 1) cs
read target (d ∷ ds) zero at cs =
    let k = kind_of target.chip d in
    let st = state_of target cs in
    let c = command_at k (d ∷ ds) at st in
    after_verdict (judge_of k (length (d ∷ ds)) c.head st) c (read target ds (c.total - 1) (at + 1) (c ∷ cs))

-- the reading of a batch, for a chip and a capacity in rows
unfoldable pub reading_of : Target → List ℕ → Reading
reading_of target b = read target b 0 0 []
