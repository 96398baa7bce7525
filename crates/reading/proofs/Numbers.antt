-- The number with which reading stops at a refusal: one of 2 to 9. Assumes nothing.
use mathlib.Core.Path.{subst}
use Prim.Native.Nat.{ℕ, ◌≤◌}
use native.Mathlib.Omega.{arith}
use mathlib.Core.List.{List}
use lib.Dec.{T, leb, leb→le}
use Rattle.chips.specs.declared.Target.{Target}
use Rattle.laws.proofs.Tests.{both_left, both_right}
use Rattle.chips.specs.Refusals.{number_of_refusal}
use Rattle.judge.specs.Refusals.{Verdict}
use Rattle.command.specs.Order.{Command}
use Rattle.judge.proofs.Judged.{in_range, fault_number}
use Rattle.reading.specs.Reading.{Stop, ended, stopped, reading_of}
use Rattle.reading.specs.EndToEnd.{EndToEnd, used_up, faulty, last, next}
use Rattle.reading.proofs.EndToEnd.{reading_laid}

-- how reading stopped: at END, or with a number of 2 to 9
abbrev pub ReadNumber : Stop → Type 0
ReadNumber (ended d) = Unit
ReadNumber (stopped m p) = (2 ≤ m) × (m ≤ 9)

numbers : (target : Target) (b : List ℕ) {cs : List Command} {at : ℕ} {xs : List Command} {stop : Stop} → EndToEnd target b cs at xs stop → ReadNumber stop
numbers target b used_up = (omega arith, omega arith)
numbers target b (faulty {cs} {at} {f} p v) =
    let m = number_of_refusal f.refusal in
    let t = subst (λ (x : Verdict). T (in_range x)) v (fault_number _ _ _ _) in
    let l = leb→le 3 m (both_left (leb 3 m) (leb m 9) t) in
    (omega arith, leb→le m 9 (both_right (leb 3 m) (leb m 9) t))
numbers target b (last p s q) = tt
numbers target b (next p s n r) = numbers target b r

-- LAW
pub read_number : (target : Target) (b : List ℕ) → ReadNumber (reading_of target b).stop
read_number target b = numbers target b (reading_laid target b)
