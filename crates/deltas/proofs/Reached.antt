-- The quick test: what the code shows of it, and that no delta leads to what fails it. Assumes nothing.
use Rattle.std.proofs.Common.{◌≡◌, ℕ, zero, suc, ◌+◌, ◌*◌, ◌/◌, ◌%◌, ◌^◌, ◌<◌, ◌≤◌, Bool, true, false, cond, not, ◌&&◌, T, eqb, ◌⊎◌, List, length, get_or, set, replicate, sym, ap, ◌∙◌, subst, ap₂, inl, inr, le_refl, le_of_suc-le-suc, mod-eq_of_lt, eq-or-lt_of_le, add-one, arith, eqb→eq, length-set, get_or-set_other, get_or-set_same, shl_exact, eq-eqb, ne_eqb, eqb-true}
use lib.Bits.{bit_and, bit_or, bit_xor, and_mask}
use lib.ListN.{length-replicate}
use Rattle.std.specs.Int.{bit_at}
use Rattle.std.proofs.lemmas.Nat.Bits.{bit_at_or, bit_at-lt, bit_at-pow_same}
use Rattle.std.proofs.Math.Bool.{not-not}
use lib.Pow.{high, low}
use Rattle.std.proofs.lemmas.Bool.{false_from_ne_true}
use borrow.Author.Tests.{eqb-false, not-true, not-false}
use Rattle.laws.specs.BitRanges.{bits, field, any_set, mask_of}
use Rattle.laws.proofs.BitRanges.{marked}
use Rattle.laws.proofs.Choices.{by_test, and_left, and_right, not_both}
use Rattle.laws.proofs.Find.{none}
use Rattle.laws.proofs.Tests.{both_left, both_right}
use Rattle.deltas.specs.Deltas.{delta_x, delta_y}
use Rattle.deltas.specs.InPlay.{bit_set}
use Rattle.deltas.specs.Meets.{reaches, meets_at}
use Rattle.deltas.specs.Lowest.{leads_at, lowest_at, delta_byte}
use Rattle.deltas.specs.Reach.{place_of, less, furthest_back, corner_of, column_of, row_of, with_delta, rows_to, rows_of, beyond, near_to, reached_from}
use Rattle.deltas.proofs.Masks.{set_at, all, below}
use Rattle.deltas.proofs.Bytes.{bit, bits_above, led, low_half, high_half, low_small, high_small, byte_halves}

-- a difference that wraps
less_is : (r a b : ℕ) → r < 2 ^ 64 → b < 2 ^ 64 → (r + b) % 2 ^ 64 ≡ a → r ≡ less a b
less_is r a b hr hb e = omega arith

-- what `corner` shows
pub corner_is : (x y p r : ℕ) → r < 2 ^ 64 → p ≡ place_of x y → (r + furthest_back) % 2 ^ 64 ≡ p → r ≡ corner_of x y
unfolding corner_of
corner_is x y p r h e q = less_is r (place_of x y) furthest_back h (omega arith) (q ∙ e)

-- LAW: what is not near is not reached
pub far_unreached : (corner place : ℕ) (rows : List ℕ) → near_to corner place ≡ false → reached_from corner rows place ≡ false
unfolding reached_from
far_unreached corner place rows e =
    ap (λ (t : Bool). t && bit_set (less place corner % 16) (get_or rows (less place corner / 2 ^ 32 % 16) 0)) e

-- what `near` and `reached` show: off is how far the place is from the corner, t whether that is near
module _ (corner place off : ℕ) (ho : off < 2 ^ 64) (hc : corner < 2 ^ 64) (eo : (off + corner) % 2 ^ 64 ≡ place) where
  is_off : less place corner ≡ off
  is_off = sym (less_is off place corner ho hc eo)

  pub near_is : eqb (bit_and off (mask_of beyond)) 0 ≡ near_to corner place
  near_is = sym (ap not (ap (any_set beyond) is_off ∙ marked beyond off tt) ∙ not-not (eqb (bit_and off (mask_of beyond)) 0))

  pub reached_on : (rows : List ℕ) (t : Bool) → t ≡ near_to corner place → not t ≡ false
      → eqb (bit_and (get_or rows (bit_and (off / 4294967296) 15) 0 / 2 ^ bit_and off 15) 1) 1 ≡ reached_from corner rows place
  unfolding reached_from
  reached_on rows t e q =
      ap (λ (n : ℕ). eqb n 1)
      (ap₂ (λ (i m : ℕ). bit_and (m / 2 ^ i) 1) (and_mask off 4) (ap (λ (j : ℕ). get_or rows j 0) (and_mask (off / 4294967296) 4))
      ∙ sym (bit (off % 16) (get_or rows (off / 2 ^ 32 % 16) 0)))
      ∙ ap (λ (o : ℕ). bit_set (o % 16) (get_or rows (o / 2 ^ 32 % 16) 0)) (sym is_off)
      ∙ sym (ap (λ (b : Bool). b && bit_set (less place corner % 16) (get_or rows (less place corner / 2 ^ 32 % 16) 0)) (sym e ∙ not-false t q))

pub reached_off : (corner place : ℕ) (rows : List ℕ) (t : Bool) → t ≡ near_to corner place → not t ≡ true → false ≡ reached_from corner rows place
reached_off corner place rows t e q = sym (far_unreached corner place rows (sym e ∙ not-true t q))

-- what `mark` shows: 8 more in each half of a byte, by one test of all bytes
abbrev cell_right : ℕ → Bool
cell_right b = eqb (bit_and (bit_xor b 136 / 16) 15) (row_of b) && eqb (bit_and (bit_xor b 136) 15) (column_of b)

cell_tested : T (all cell_right 256)
cell_tested = tt

cell : (b : ℕ) → b < 256 → T (cell_right b)
cell b h = below cell_right 256 cell_tested b h

byte_small : (d6 d7 i b : ℕ) → b ≡ delta_byte d6 d7 i → b < 256
byte_small d6 d7 i b e = omega (arith, byte_halves d6 d7 i, low_small d6 d7 i, high_small d6 d7 i)

module _ (mask d6 d7 i : ℕ) (rows : List ℕ) where
  pub mark_off : (bit_and (mask / 2 ^ i) 1 ≡ 1 → ⊥) → rows ≡ with_delta mask d6 d7 i rows
  unfolding with_delta
  mark_off n = simp (ne_eqb (field (bits i i) mask) 1 (λ e. n (sym (bit i mask) ∙ e)))

  pub mark_on : (b : ℕ) → bit_and (mask / 2 ^ i) 1 ≡ 1 → b ≡ delta_byte d6 d7 i
      → set rows (bit_and (bit_xor b 136 / 16) 15) (bit_or (get_or rows (bit_and (bit_xor b 136 / 16) 15) 0) ((1 * 2 ^ bit_and (bit_xor b 136) 15) % 2 ^ 32))
      ≡ with_delta mask d6 d7 i rows
  unfolding with_delta
  mark_on b e q =
      let t = cell b (byte_small d6 d7 i b q) in
      let row = eqb→eq (bit_and (bit_xor b 136 / 16) 15) (row_of b) (both_left (eqb (bit_and (bit_xor b 136 / 16) 15) (row_of b)) _ t) in
      let column = eqb→eq (bit_and (bit_xor b 136) 15) (column_of b) (both_right (eqb (bit_and (bit_xor b 136 / 16) 15) (row_of b)) _ t) in
      let one : 1 * 2 ^ column_of b ≡ 2 ^ column_of b = omega arith in
      let shifted = ap (λ (x : ℕ). (1 * 2 ^ x) % 2 ^ 32) column ∙ shl_exact {a = 1} 1 (column_of b) 32 (omega arith) (omega arith) ∙ one in
      ap₂ (λ (y v : ℕ). set rows y (bit_or (get_or rows y 0) v)) row shifted
      ∙ ap (λ (x : ℕ). set rows (row_of x) (bit_or (get_or rows (row_of x) 0) (2 ^ column_of x))) q
      ∙ sym (ap (λ (z : Bool). cond z (set rows (row_of (delta_byte d6 d7 i)) (bit_or (get_or rows (row_of (delta_byte d6 d7 i)) 0) (2 ^ column_of (delta_byte d6 d7 i)))) rows) (eq-eqb (field (bits i i) mask) 1 (bit i mask ∙ e)))

-- what `set_rows` shows
module _ (mask d6 d7 : ℕ) where
  pub rows_first : (rows : List ℕ) → rows ≡ replicate 16 0 → rows ≡ rows_to mask d6 d7 0
  unfolding rows_to
  rows_first rows e = e

  module _ (i : ℕ) (rows : List ℕ) (e : rows ≡ rows_to mask d6 d7 i) where
    pub rows_next : (after : List ℕ) → after ≡ with_delta mask d6 d7 i rows → after ≡ rows_to mask d6 d7 (i + 1)
    unfolding rows_to
    rows_next after q = q ∙ ap (with_delta mask d6 d7 i) e ∙ ap (rows_to mask d6 d7) (sym (add-one i))

    -- with no bit of the mask left, the rest sets none
    rows_same : mask / 2 ^ i ≡ 0 → (n : ℕ) → i ≤ n → rows_to mask d6 d7 n ≡ rows_to mask d6 d7 i
    unfolding rows_to with_delta
    rows_same z zero h = let n : 0 ≡ i = omega arith in ap (rows_to mask d6 d7) n
    rows_same z (suc n) h =
        by_test (eqb i (suc n))
        (λ t. ap (rows_to mask d6 d7) (sym (eqb-true i (suc n) t)))
        (λ t. let m = eqb-false i (suc n) t in
        let l : i ≤ n = omega arith in
        simp (bits_above mask i z n l) (rows_same z n l))

    pub rows_rest : i < 8 → mask / 2 ^ i ≡ 0 → rows ≡ rows_of mask d6 d7
    unfolding rows_of
    rows_rest l z = e ∙ sym (rows_same z 8 (omega arith))

    pub rows_all : i ≤ 8 → 8 ≤ i → rows ≡ rows_of mask d6 d7
    unfolding rows_of
    rows_all p q = let n : i ≡ 8 = omega arith in e ∙ ap (rows_to mask d6 d7) n

pub ruleset rows_laws = (rows_first, rows_next, rows_rest, rows_all)

-- what is set in one of two numbers is set in both together
or_left : (m n i : ℕ) → bit_set i m ≡ true → bit_set i (bit_or m n) ≡ true
or_left m n i e =
    let h : bit_at m i ≡ 1 = eqb-true (bit_at m i) 1 (sym (set_at i m) ∙ e) in
    set_at i (bit_or m n) ∙ eq-eqb (bit_at (bit_or m n) i) 1 (omega (arith, bit_at_or m n i, bit_at-lt n i))

or_right : (m n i : ℕ) → bit_set i n ≡ true → bit_set i (bit_or m n) ≡ true
or_right m n i e =
    let h : bit_at n i ≡ 1 = eqb-true (bit_at n i) 1 (sym (set_at i n) ∙ e) in
    set_at i (bit_or m n) ∙ eq-eqb (bit_at (bit_or m n) i) 1 (omega (arith, bit_at_or m n i, bit_at-lt m i))

own_set : (i : ℕ) → bit_set i (2 ^ i) ≡ true
own_set i = set_at i (2 ^ i) ∙ eq-eqb (bit_at (2 ^ i) i) 1 (bit_at-pow_same i)

-- a bit that is set stays set
module _ (mask d6 d7 i : ℕ) (rows : List ℕ) (l : length rows ≡ 16) where
  with_length : length (with_delta mask d6 d7 i rows) ≡ 16
  unfolding with_delta
  with_length = go (bit_set i mask)
    where
      go : (t : Bool) → length (cond t (set rows (row_of (delta_byte d6 d7 i)) (bit_or (get_or rows (row_of (delta_byte d6 d7 i)) 0) (2 ^ column_of (delta_byte d6 d7 i)))) rows) ≡ 16
      go true = length-set rows _ _ ∙ l
      go false = l

  abbrev r : ℕ
  r = row_of (delta_byte d6 d7 i)

  abbrev w : ℕ
  w = bit_or (get_or rows r 0) (2 ^ column_of (delta_byte d6 d7 i))

  with_own : bit_set i mask ≡ true → bit_set (column_of (delta_byte d6 d7 i)) (get_or (with_delta mask d6 d7 i rows) r 0) ≡ true
  unfolding with_delta
  with_own e =
      let h : r < length rows = omega (arith, l) in
      ap (λ (t : Bool). bit_set (column_of (delta_byte d6 d7 i)) (get_or (cond t (set rows r w) rows) r 0)) e
      ∙ ap (bit_set (column_of (delta_byte d6 d7 i))) (get_or-set_same rows r w 0 h)
      ∙ or_right (get_or rows r 0) (2 ^ column_of (delta_byte d6 d7 i)) (column_of (delta_byte d6 d7 i)) (own_set (column_of (delta_byte d6 d7 i)))

  with_keeps : (x y : ℕ) → y < 16 → bit_set x (get_or rows y 0) ≡ true → bit_set x (get_or (with_delta mask d6 d7 i rows) y 0) ≡ true
  unfolding with_delta
  with_keeps x y hy e = go (bit_set i mask)
    where
      go : (t : Bool) → bit_set x (get_or (cond t (set rows r w) rows) y 0) ≡ true
      go false = e
      go true =
          by_test (eqb y r)
          (λ p. let q : y ≡ r = eqb-true y r p in
          subst (λ (z : ℕ). bit_set x (get_or (set rows r w) z 0) ≡ true) (sym q)
          (ap (bit_set x) (get_or-set_same rows r w 0 (omega (arith, l)))
          ∙ or_left (get_or rows r 0) (2 ^ column_of (delta_byte d6 d7 i)) x (subst (λ (z : ℕ). bit_set x (get_or rows z 0) ≡ true) q e)))
          (λ p. ap (bit_set x) (get_or-set_other rows r y w 0 (eqb-false y r p)) ∙ e)

module _ (mask d6 d7 : ℕ) where
  rows_length : (n : ℕ) → length (rows_to mask d6 d7 n) ≡ 16
  unfolding rows_to
  rows_length zero = length-replicate {A = ℕ} 16 0
  rows_length (suc n) = with_length mask d6 d7 n (rows_to mask d6 d7 n) (rows_length n)

  pub rows_long : length (rows_of mask d6 d7) ≡ 16
  unfolding rows_of
  rows_long = rows_length 8

  -- every delta of the mask has its bit set
  rows_set : (n i : ℕ) → i < n → bit_set i mask ≡ true → bit_set (column_of (delta_byte d6 d7 i)) (get_or (rows_to mask d6 d7 n) (row_of (delta_byte d6 d7 i)) 0) ≡ true
  unfolding rows_to
  rows_set zero i h e = absurd (omega arith)
  rows_set (suc n) i h e = go (eq-or-lt_of_le (le_of_suc-le-suc h)) (λ l. rows_set n i l e)
    where
      go : (i ≡ n) ⊎ (i < n)
          → (i < n → bit_set (column_of (delta_byte d6 d7 i)) (get_or (rows_to mask d6 d7 n) (row_of (delta_byte d6 d7 i)) 0) ≡ true)
          → bit_set (column_of (delta_byte d6 d7 i)) (get_or (rows_to mask d6 d7 (suc n)) (row_of (delta_byte d6 d7 i)) 0) ≡ true
      go (inl q) ih =
          subst (λ (k : ℕ). bit_set (column_of (delta_byte d6 d7 k)) (get_or (rows_to mask d6 d7 (suc n)) (row_of (delta_byte d6 d7 k)) 0) ≡ true) (sym q)
          (with_own mask d6 d7 n (rows_to mask d6 d7 n) (rows_length n) (subst (λ (k : ℕ). bit_set k mask ≡ true) q e))
      go (inr l) ih =
          with_keeps mask d6 d7 n (rows_to mask d6 d7 n) (rows_length n) (column_of (delta_byte d6 d7 i)) (row_of (delta_byte d6 d7 i)) (omega arith) (ih l)

-- from the corner to what a delta leads to
module _ (x y jx jy a b : ℕ) (ex : jx + 8 ≡ x + a) (ey : jy + 8 ≡ y + b) (ha : a < 16) (hb : b < 16) where
  offset : less (place_of jx jy) (corner_of x y) ≡ a + 2 ^ 32 * b
  unfolding corner_of
  offset = omega arith

-- a place that is so far on passes where its bit is set
module _ (a b : ℕ) (ha : a < 16) (hb : b < 16) where
  inside : any_set beyond (a + 2 ^ 32 * b) ≡ false
  unfolding any_set field
  inside =
      let p : (a + 2 ^ 32 * b) / 2 ^ 36 % 2 ^ 28 ≡ 0 = omega arith in
      let q : (a + 2 ^ 32 * b) / 2 ^ 4 % 2 ^ 28 ≡ 0 = omega arith in
      simp (p, q)

  passes : (corner place : ℕ) (rows : List ℕ) → less place corner ≡ a + 2 ^ 32 * b → bit_set a (get_or rows b 0) ≡ true → reached_from corner rows place ≡ true
  unfolding reached_from
  passes corner place rows e s =
      let w : a + 2 ^ 32 * b ≡ 2 ^ 28 * b * 2 ^ 4 + a = omega arith in
      let p : (a + 2 ^ 32 * b) % 16 ≡ a = ap (λ (n : ℕ). n % 16) w ∙ low (2 ^ 28 * b) 4 {lo = a} ha in
      let v : a + 2 ^ 32 * b ≡ b * 2 ^ 32 + a = omega arith in
      let small : a < 2 ^ 32 = omega arith in
      let q : (a + 2 ^ 32 * b) / 2 ^ 32 % 16 ≡ b = ap (λ (n : ℕ). n / 2 ^ 32 % 16) v ∙ ap (λ (n : ℕ). n % 16) (high b 32 {lo = a} small) ∙ mod-eq_of_lt hb in
      ap (λ (o : ℕ). not (any_set beyond o) && bit_set (o % 16) (get_or rows (o / 2 ^ 32 % 16) 0)) e
      ∙ ap (λ (t : Bool). not t && bit_set ((a + 2 ^ 32 * b) % 16) (get_or rows ((a + 2 ^ 32 * b) / 2 ^ 32 % 16) 0)) inside
      ∙ ap₂ (λ (i j : ℕ). bit_set i (get_or rows j 0)) p q
      ∙ s

-- LAW: whoever a delta of the mask leads to passes
module _ (x y mask d6 d7 jx jy : ℕ) where
  lead_reached : (i : ℕ) → i < 8 → leads_at x y mask d6 d7 jx jy i ≡ true → reached_from (corner_of x y) (rows_of mask d6 d7) (place_of jx jy) ≡ true
  unfolding leads_at meets_at delta_x delta_y rows_of
  lead_reached i h e =
      let b = delta_byte d6 d7 i in
      let m = and_right (bit_set i mask) _ e in
      let ex = led x jx (low_half d6 d7 i) (low_small d6 d7 i) (and_left (reaches x (delta_x d6 d7 i) jx) _ m) in
      let ey = led y jy (high_half d6 d7 i) (high_small d6 d7 i) (and_right (reaches x (delta_x d6 d7 i) jx) _ m) in
      let cx : jx + 8 ≡ x + column_of b = omega (arith, ex, byte_halves d6 d7 i, low_small d6 d7 i) in
      let cy : jy + 8 ≡ y + row_of b = omega (arith, ey, byte_halves d6 d7 i, low_small d6 d7 i) in
      let o = offset x y jx jy (column_of b) (row_of b) cx cy (omega arith) (omega arith) in
      passes (column_of b) (row_of b) (omega arith) (omega arith) (corner_of x y) (place_of jx jy) (rows_of mask d6 d7) o
      (rows_set mask d6 d7 8 i h (and_left (bit_set i mask) _ e))

  pub unreached : reached_from (corner_of x y) (rows_of mask d6 d7) (place_of jx jy) ≡ false → lowest_at x y mask d6 d7 jx jy ≡ 8
  unfolding lowest_at
  unreached e =
      none (leads_at x y mask d6 d7 jx jy) 8 8 (le_refl 8)
      (λ i h. false_from_ne_true (leads_at x y mask d6 d7 jx jy i) (λ p. not_both (reached_from (corner_of x y) (rows_of mask d6 d7) (place_of jx jy)) (lead_reached i h p) e))
