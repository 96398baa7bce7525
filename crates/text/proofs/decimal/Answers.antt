use Rattle.std.proofs.Common.{◌≡◌, ◌∙◌, ◌+◌, ◌-◌, ◌%◌, ◌≤◌, List, ℕ, sym, ap, subst, length, take, drop, set, arith, length-drop, length-set}
use Rattle.std.proofs.Math.Seq.{take-length}
use Rattle.text.proofs.Numbers.{digit_first}
use Rattle.text.proofs.decimal.Goals as goal

pub returns-then-rest-eq0 : goal.returns-then-rest-eq0
returns-then-rest-eq0 c =
    let l = c.loop-i in
    let first : List ℕ = drop (l.i - 1) (set l.digits (l.i - 1) (48 + l.rest % 10)) in
    let n : length first ≡ 20 - (l.i - 1) = simp (length-drop, length-set) (omega arith) in
    let e : take (20 - (l.i - 1)) first ≡ first = ap (λ (k : ℕ). take k first) (sym n) ∙ take-length first in
    (e ∙ digit_first _ _ _ _ l.invariant (omega arith) (omega arith) (omega arith), subst (λ (s : List ℕ). length s ≤ 20) (sym e) (omega arith))
