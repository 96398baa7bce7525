-- A batch has no more commands than dwords. Assumes nothing.
use mathlib.Core.List.{List, [], ◌∷◌}
use Prim.Native.Nat.{ℕ, zero, suc, ◌+◌, ◌-◌, ◌≤◌}
use native.Mathlib.Omega.{arith}
use lib.ListN.{length}
use Rattle.chips.specs.declared.Target.{Target}
use Rattle.command.specs.Kinds.{kind_of}
use Rattle.command.specs.Order.{Command, state_of}
use Rattle.judge.specs.Refusals.{judge_of}
use Rattle.reading.specs.Reading.{Reading, command_at, read, reading_of}
use Rattle.reading.proofs.Verdicts.{by_verdict_lem}

read_count : (target : Target) (l : List ℕ) (n at : ℕ) (cs : List Command) → length (read target l n at cs).passed ≤ length l
unfolding read
read_count target [] n at cs = omega arith
read_count target (d ∷ ds) (suc n) at cs = let h = read_count target ds n (at + 1) cs in omega arith
read_count target (d ∷ ds) zero at cs =
    let st = state_of target cs in
    let c = command_at (kind_of target.chip d) (d ∷ ds) at st in
    let h = read_count target ds (c.total - 1) (at + 1) (c ∷ cs) in
    by_verdict_lem (λ (r : Reading). length r.passed ≤ suc (length ds)) (kind_of target.chip d) (judge_of (kind_of target.chip d) (length (d ∷ ds)) c.head st) _ _ _
    (λ f e. omega arith) (λ e k. omega arith) (λ e k. omega arith)

-- LAW
pub passed_count : (target : Target) (b : List ℕ) → length (reading_of target b).passed ≤ length b
unfolding reading_of
passed_count target b = read_count target b 0 0 []
