-- A head is by bytes 0 to 15 alone. Assumes nothing.
use mathlib.Core.Path.{◌≡◌}
use mathlib.Core.List.{List}
use Prim.Native.Nat.{ℕ, ◌<◌}
use native.Mathlib.Omega.{arith}
use Rattle.event.specs.Head.{byte_at, head_of}

-- two events that agree there have one head, and so no rule tells them apart
pub head_same : (ev ev' : List ℕ) → ((j : ℕ) → j < 16 → byte_at ev j ≡ byte_at ev' j) → head_of ev ≡ head_of ev'
unfolding head_of
head_same ev ev' h =
    simp (
      h 0 (omega arith),
      h 1 (omega arith),
      h 2 (omega arith),
      h 3 (omega arith),
      h 4 (omega arith),
      h 5 (omega arith),
      h 6 (omega arith),
      h 7 (omega arith),
      h 8 (omega arith),
      h 9 (omega arith),
      h 10 (omega arith),
      h 11 (omega arith),
      h 12 (omega arith),
      h 13 (omega arith),
      h 14 (omega arith),
      h 15 (omega arith),
    )
