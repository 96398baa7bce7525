-- Whom a delta leads to: document 01, "Who waits for whom".
use Rattle.std.specs.Prelude.{ℕ, Bool, ◌&&◌, ℤ, pos, ◌+ℤ◌}
use Rattle.deltas.specs.Whole.{eq_ℤ}

-- a coordinate plus a part of a delta equals another coordinate, "as whole numbers": a sum that is negative equals none
unfoldable pub reaches : ℕ → ℤ → ℕ → Bool
reaches x d to = eq_ℤ (pos x +ℤ d) (pos to)

-- from the position (x, y) by the delta (dx, dy) to the position (jx, jy)
unfoldable pub meets_at : ℕ → ℕ → ℤ → ℤ → ℕ → ℕ → Bool
meets_at x y dx dy jx jy = reaches x dx jx && reaches y dy jy
