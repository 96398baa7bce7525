-- A list filled from its start. Assumes nothing.
use Rattle.std.specs.Prelude.{ℕ, zero, suc, List, set}

-- a list whose first n entries are f 0, f 1, .., and whose others are as they were
unfoldable pub filled : {A : Type 0} → (ℕ → A) → ℕ → List A → List A
filled f zero l = l
filled f (suc n) l = set (filled f n l) n (f n)
