-- The table's rule, over chip, kind and dword. Assumes nothing.
use mathlib.Core.Path.{◌≡◌}
use mathlib.Core.Bool.{Bool, not, ◌&&◌}
use mathlib.Core.List.{List, []}
use Prim.Native.Nat.{ℕ, ◌<◌}
use native.Mathlib.Omega.{arith}
use lib.Bits.{bit_and}
use lib.Dec.{T, eqb, eqb→eq}
use lib.ListN.{length, get_or}
use Rattle.laws.specs.BitRanges.{Bits, any_set}
use Rattle.laws.proofs.BitRanges.{masks_table, by_table}
use Rattle.laws.proofs.Tests.{both_left, both_right}
use Rattle.chips.specs.declared.Chip.{Chip}
use Rattle.chips.specs.declared.Chip.TheVariants.{Gen6, Gen7}
use Rattle.masks.specs.MustBeZero.{row_of}

-- the table has a row for each chip
pub row_below : (c : Chip) → row_of c < 2
row_below Gen6 = omega arith
row_below Gen7 = omega arith

-- the masks of a chip
abbrev masks_of : List (List (List ℕ)) → Chip → List (List ℕ)
masks_of xs c = get_or xs (row_of c) []

-- of so many kinds, and so many dwords a kind
module _ (ranges : Chip → ℕ → ℕ → List Bits) (kinds width : ℕ) where
  abbrev holds : List (List (List ℕ)) → Chip → Bool
  holds xs c = eqb (length (masks_of xs c)) kinds && masks_table (ranges c) width (masks_of xs c)

  -- the one computed test: both chips' masks are those of their ranges
  abbrev pub masks_chips : List (List (List ℕ)) → Bool
  masks_chips xs = holds xs Gen6 && holds xs Gen7

  each : (xs : List (List (List ℕ))) → T (masks_chips xs) → (c : Chip) → T (holds xs c)
  each xs t Gen6 = both_left (holds xs Gen6) (holds xs Gen7) t
  each xs t Gen7 = both_right (holds xs Gen6) (holds xs Gen7) t

  -- then each entry tests its ranges
  pub by_chips : (xs : List (List (List ℕ))) → T (masks_chips xs) → (c : Chip) (r k i d : ℕ) → r ≡ row_of c → k < kinds → i < width
      → not (eqb (bit_and d (get_or (get_or (get_or xs r []) k []) i 0)) 0) ≡ any_set (ranges c k i) d
  by_chips xs t c r k i d e hk hi =
      let long = eqb (length (masks_of xs c)) kinds in
      let masks = masks_table (ranges c) width (masks_of xs c) in
      let n : length (masks_of xs c) ≡ kinds = eqb→eq (length (masks_of xs c)) kinds (both_left long masks (each xs t c)) in
      simp e (by_table (ranges c) width (masks_of xs c) (both_right long masks (each xs t c)) k i d (omega arith) hi)
