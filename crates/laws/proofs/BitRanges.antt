-- Shift and mask take a field out of a dword, and a mask tests the ranges that it is made of. Assumes nothing.
use mathlib.Core.Path.{◌≡◌, sym, ap, ap₂, ◌∙◌}
use mathlib.Core.Bool.{Bool, false, not, ◌&&◌, ◌||◌}
use mathlib.Core.List.{List, [], ◌∷◌}
use Prim.Native.Nat.{ℕ, zero, suc, ◌+◌, ◌-◌, ◌*◌, ◌/◌, ◌%◌, ◌^◌, ◌<◌}
use native.Mathlib.Nat.{mod-lt, mod-eq_of_lt, div-add-mod', suc-mul, lt_of_le_of_lt}
use native.Mathlib.Omega.{arith}
use lib.Bits.{bit_and, and_block, and_mask, and_mod, and_le_r, and_zero_r}
use lib.Pow.{pow_pos}
use lib.Dec.{T, eqb, eqb→eq, ltb, ltb→lt}
use lib.ListN.{length, get_or}
use borrow.Author.Tests.{ne_eqb}
use Rattle.laws.proofs.Tests.{both_left, both_right}
use Rattle.laws.proofs.Table.{every, at}
use Rattle.laws.specs.BitRanges.{Bits, bits, field, any_set, mask_of, apart}

-- the law between a range of bits and the code's shift and mask
pub taken : (h l d : ℕ) → field (bits h l) d ≡ bit_and (d / 2 ^ l) (2 ^ (h - l + 1) - 1)
unfolding field
taken h l d = sym (and_mask (d / 2 ^ l) (h - l + 1))

-- and of a range that starts at bit 0, where the code has no shift
pub taken_low : (h d : ℕ) → field (bits h 0) d ≡ bit_and d (2 ^ (h - 0 + 1) - 1)
unfolding field
taken_low h d = let e : d / 2 ^ 0 ≡ d = omega arith in ap (λ (x : ℕ). x % 2 ^ (h - 0 + 1)) e ∙ sym (and_mask d (h - 0 + 1))

-- a range of the specification turned into the code's shift and mask
pub ruleset coded = (taken_low, taken)

some : (x y p : ℕ) → 0 < p → not (eqb x 0) || not (eqb y 0) ≡ not (eqb (x * p + y) 0)
some zero y p h = let e : y ≡ 0 * p + y = omega arith in ap (λ (n : ℕ). not (eqb n 0)) e
some (suc x) y p h =
    let m : suc x * p ≡ x * p + p = suc-mul x p in
    let e : eqb (suc x) 0 ≡ false = ne_eqb (suc x) 0 (λ q. omega arith) in
    let f : eqb (suc x * p + y) 0 ≡ false = ne_eqb (suc x * p + y) 0 (λ q. omega arith) in
    simp (e, f)

low_part : (d m k : ℕ) → m < 2 ^ k → bit_and (d % 2 ^ k) m ≡ bit_and d m
low_part d m k h =
    ap (bit_and (d % 2 ^ k)) (sym (mod-eq_of_lt h)) ∙ sym (and_mod d m k) ∙ mod-eq_of_lt (lt_of_le_of_lt (and_le_r d m) h)

step : (d w k m : ℕ) → m < 2 ^ k → bit_and d ((2 ^ w - 1) * 2 ^ k + m) ≡ (d / 2 ^ k % 2 ^ w) * 2 ^ k + bit_and d m
step d w k m h =
    ap (λ (x : ℕ). bit_and x ((2 ^ w - 1) * 2 ^ k + m)) (sym (div-add-mod' d (2 ^ k)))
    ∙ and_block k (d / 2 ^ k) (2 ^ w - 1) (d % 2 ^ k) m (mod-lt d (pow_pos k)) h
    ∙ ap₂ (λ (x y : ℕ). x * 2 ^ k + y) (and_mask (d / 2 ^ k) w) (low_part d m k h)

-- the mask of ranges tests whether one of their bits is set
pub marked : (rs : List Bits) (d : ℕ) → T (apart rs) → any_set rs d ≡ not (eqb (bit_and d (mask_of rs)) 0)
unfolding any_set field
marked [] d t = ap (λ (n : ℕ). not (eqb n 0)) (sym (and_zero_r d))
marked (r ∷ rs) d t =
    let h = ltb→lt (mask_of rs) (2 ^ r.low) (both_left (ltb (mask_of rs) (2 ^ r.low)) (apart rs) t) in
    ap (λ (b : Bool). not (eqb (field r d) 0) || b) (marked rs d (both_right (ltb (mask_of rs) (2 ^ r.low)) (apart rs) t))
    ∙ some (field r d) (bit_and d (mask_of rs)) (2 ^ r.low) (pow_pos r.low)
    ∙ ap (λ (n : ℕ). not (eqb n 0)) (sym (step d (r.high - r.low + 1) r.low (mask_of rs) h))

-- The rule of a table of masks, whose entry i in row k, of so many to a row, has the marked ranges `ranges k i`.
module _ (ranges : ℕ → ℕ → List Bits) (width : ℕ) where
  -- an entry is the mask of its ranges, which stand apart
  abbrev masks_entry : ℕ → ℕ → ℕ → Bool
  masks_entry k i x = apart (ranges k i) && eqb x (mask_of (ranges k i))

  abbrev masks_row : ℕ → List ℕ → Bool
  masks_row k xs = eqb (length xs) width && every (masks_entry k) 0 0 xs

  -- the computed test: every entry of every row is
  abbrev pub masks_table : List (List ℕ) → Bool
  masks_table xs = every masks_row [] 0 xs

  -- then each entry tests its ranges
  pub by_table : (xs : List (List ℕ)) → T (masks_table xs) → (k i d : ℕ) → k < length xs → i < width
      → not (eqb (bit_and d (get_or (get_or xs k []) i 0)) 0) ≡ any_set (ranges k i) d
  by_table xs t k i d hk hi =
      let row = get_or xs k [] in
      let x = get_or row i 0 in
      let r = at masks_row [] xs t k hk in
      let long = eqb→eq (length row) width (both_left (eqb (length row) width) (every (masks_entry k) 0 0 row) r) in
      let u = at (masks_entry k) 0 row (both_right (eqb (length row) width) (every (masks_entry k) 0 0 row) r) i (omega arith) in
      ap (λ (n : ℕ). not (eqb (bit_and d n) 0)) (eqb→eq x (mask_of (ranges k i)) (both_right (apart (ranges k i)) (eqb x (mask_of (ranges k i))) u))
      ∙ sym (marked (ranges k i) d (both_left (apart (ranges k i)) (eqb x (mask_of (ranges k i))) u))
