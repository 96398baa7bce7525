-- A group byte as the code reads it. Assumes nothing.
use mathlib.Core.Path.{◌≡◌, refl}
use mathlib.Core.List.{List, [], ◌∷◌}
use Prim.Native.Nat.{ℕ, zero, suc, ◌<◌}
use native.Mathlib.Omega.{arith}
use lib.ListN.{length, get_or}
use Rattle.event.specs.declared.Setup.{Setup}
use Rattle.event.specs.Groups.{group_of}

-- what stands in a list, whatever stands past its end
pub in_list : {A : Type 0} (x y : A) (l : List A) (i : ℕ) → i < length l → get_or l i x ≡ get_or l i y
in_list x y [] i h = absurd (omega arith)
in_list x y (z ∷ l) zero h = refl
in_list x y (z ∷ l) (suc i) h = in_list x y l i (omega arith)

pub group_read : (s : Setup) (t : ℕ) → length s.groups ≡ 16 → t < 16 → get_or s.groups t 0 ≡ group_of s.groups t
group_read s t e h = in_list 0 255 s.groups t (omega arith)
