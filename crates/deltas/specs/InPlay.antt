-- The deltas in play: document 01, "Who waits for whom".
use Rattle.std.specs.Prelude.{ℕ, Bool, cond, ◌&&◌, List, [], ◌∷◌, length, ◌==◌, bit_and}
use Rattle.laws.specs.BitRanges.{bits, field}
use Rattle.command.specs.Fields.{scoreboard_use, scoreboard_mask}
use Rattle.deltas.specs.declared.InPlay.{InPlay}

-- is bit i set?
abbrev pub bit_set : ℕ → ℕ → Bool
bit_set i n = field (bits i i) n == 1

-- "An object uses a scoreboard when its own bit and its VFE's enable are both set": the enable is bit 31 of VFE dword 5
unfoldable pub uses_scoreboard : ℕ → ℕ → Bool
uses_scoreboard own vfe5 = own == 1 && bit_set 31 vfe5

-- "30 type (0 stalling, 1 not)"
unfoldable pub type_of : ℕ → ℕ
type_of vfe5 = field (bits 30 30) vfe5

-- those of a list for which a test holds
abbrev pub those : (ℕ → Bool) → List ℕ → List ℕ
those f [] = []
those f (i ∷ is) = cond (f i) (i ∷ those f is) (those f is)

-- "the eight deltas"
abbrev pub eight : List ℕ
eight = 0 ∷ 1 ∷ 2 ∷ 3 ∷ 4 ∷ 5 ∷ 6 ∷ 7 ∷ []

-- "those set in both its mask and its VFE's mask"
unfoldable pub set_in_both : ℕ → ℕ → List ℕ
set_in_both mask vfeMask = those (λ i. bit_set i mask && bit_set i vfeMask) eight

-- "For such an object the deltas in play are those set in both its mask and its VFE's mask (else none)": by the object's own bit, its mask
-- and VFE dword 5, which has the VFE's mask in bits 7:0
unfoldable pub in_play_of : ℕ → ℕ → ℕ → List ℕ
in_play_of own mask vfe5 = cond (uses_scoreboard own vfe5) (set_in_both mask (field (bits 7 0) vfe5)) []

-- the own dwords of an OBJECT, of which dwords 2 and 5 are given
abbrev pub object_head : ℕ → ℕ → List ℕ
object_head object2 object5 = 0 ∷ 0 ∷ object2 ∷ 0 ∷ 0 ∷ object5 ∷ []

-- the same by dwords: the own bit and the mask as an OBJECT has them in its dwords 2 and 5
abbrev pub in_play : ℕ → ℕ → ℕ → List ℕ
in_play object2 vfe5 object5 = let h = object_head object2 object5 in in_play_of (scoreboard_use h) (scoreboard_mask h) vfe5

abbrev pub first_or : ℕ → List ℕ → ℕ
first_or n [] = n
first_or n (i ∷ is) = i

-- "how many of the eight deltas are in play, and which is lowest (8 if none)"
abbrev pub counted : List ℕ → InPlay
counted is = record { count = length is; lowest = first_or 8 is }

-- the code's mask: its set bits are the deltas in play (`joined_set` of proofs/Masks.antt)
unfoldable pub joined_mask : ℕ → ℕ → ℕ → ℕ
joined_mask own mask vfe5 = cond (uses_scoreboard own vfe5) (bit_and mask (field (bits 7 0) vfe5)) 0
