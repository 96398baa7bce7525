-- A bounded search. Assumes nothing.
use Rattle.std.specs.Prelude.{◌≡◌, ℕ, zero, suc, ◌<◌, Bool, false, cond}

-- the lowest of i, i + 1, .., i + n - 1 at which f holds, and i + n where it holds at none
unfoldable pub first_from : ℕ → (ℕ → Bool) → ℕ → ℕ
first_from zero f i = i
first_from (suc n) f i = cond (f i) i (first_from n f (suc i))

-- the lowest k below n at which f holds, and n where it holds at none
unfoldable pub find_first : ℕ → (ℕ → Bool) → ℕ
unfolding first_from
find_first n f = first_from n f 0

-- f holds nowhere below n
abbrev pub NoneBelow : (ℕ → Bool) → ℕ → Type 0
NoneBelow f n = (j : ℕ) → j < n → f j ≡ false
