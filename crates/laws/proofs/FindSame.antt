-- Two searches by tests that agree. Assumes nothing.
use mathlib.Core.Path.{◌≡◌, refl, ap, ◌∙◌}
use mathlib.Core.Bool.{Bool, cond}
use Prim.Native.Nat.{ℕ, zero, suc, ◌+◌, ◌<◌}
use native.Mathlib.Omega.{arith}
use Rattle.laws.specs.Find.{first_from, find_first}

from_same : (f g : ℕ → Bool) (n i : ℕ) → ((k : ℕ) → k < i + n → f k ≡ g k) → first_from n f i ≡ first_from n g i
unfolding first_from
from_same f g zero i e = refl
from_same f g (suc n) i e =
    ap (λ (b : Bool). cond b i (first_from n f (suc i))) (e i (omega arith))
    ∙ ap (λ (m : ℕ). cond (g i) i m) (from_same f g n (suc i) (λ k h. e k (omega arith)))

pub find_same : (f g : ℕ → Bool) (n : ℕ) → ((k : ℕ) → k < n → f k ≡ g k) → find_first n f ≡ find_first n g
unfolding find_first
find_same f g n e = from_same f g n 0 (λ k h. e k (omega arith))
