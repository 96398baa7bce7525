-- A delta that leads from a position to another is one byte alone, the differences modulo 16. So a search by that byte finds the delta, and
-- sums decide whether it leads there. Assumes nothing.
use Rattle.std.proofs.Common.{◌≡◌, ℕ, suc, ◌+◌, ◌-◌, ◌*◌, ◌/◌, ◌%◌, ◌^◌, ◌<◌, ◌≤◌, Bool, true, false, cond, ◌&&◌, eqb, ltb, ℤ, pos, negsuc, sym, refl, ap, ◌∙◌, subst, ap₂, le_refl, arith, shr-shr, to_z-of_z, w32, to_z, of_z, ltb-false, ltb-true, lt-ltb, eq-eqb, ne_eqb, eqb-true}
use Rattle.std.proofs.lemmas.Bool.{false_from_ne_true}
use Rattle.std.proofs.lemmas.Nat.Bits.{shr_and_one}
use native.Mathlib.Nat.{zero-div}
use lib.Bits.{bit_and}
use lib.IntN.{sub_ℕ}
use Rattle.laws.specs.BitRanges.{bits, field}
use Rattle.laws.specs.Find.{NoneBelow}
use Rattle.laws.proofs.BitRanges.{taken}
use Rattle.laws.proofs.Choices.{by_test, and_left, and_right, not_both}
use Rattle.laws.proofs.Find.{none, none_next, found, find_at, find_before}
use Rattle.deltas.specs.Deltas.{delta_of, delta_dword, byte_low, delta_x, delta_y}
use Rattle.deltas.specs.InPlay.{bit_set}
use Rattle.deltas.specs.Meets.{reaches, meets_at}
use Rattle.deltas.specs.Lowest.{leads_at, lowest_at, delta_byte, half_to, is_byte, lowest_byte}
use Rattle.deltas.proofs.Masks.{set_at}
use Rattle.deltas.proofs.Nibbles.{half_small, x_fits, y_fits}

-- one axis: a delta with the half byte n leads so far on from 8 before
module _ (x to : ℕ) where
  back : (m : ℕ) → reaches x (negsuc m) to ≡ true → to + suc m ≡ x
  unfolding reaches
  back m e =
      by_test (ltb x (suc m))
      (λ p. let f : reaches x (negsuc m) to ≡ false = simp p in absurd (not_both (reaches x (negsuc m) to) e f))
      (λ p. let k : suc m ≤ x = ltb-false x (suc m) p in
      let f : eqb (x - suc m) to ≡ reaches x (negsuc m) to = simp p in
      let q : x - suc m ≡ to = eqb-true (x - suc m) to (f ∙ e) in
      omega arith)

  pub led : (n : ℕ) → n < 16 → reaches x (delta_of n) to ≡ true → to + 8 ≡ x + (n + 8) % 16
  unfolding delta_of reaches
  led n l = go (ltb n 8) refl
    where
      go : (t : Bool) → ltb n 8 ≡ t → reaches x (cond t (pos n) (sub_ℕ n 16)) to ≡ true → to + 8 ≡ x + (n + 8) % 16
      go true p e = let k : n < 8 = ltb-true n 8 p in let q : x + n ≡ to = eqb-true (x + n) to e in omega arith
      go false p e =
          let k : 8 ≤ n = ltb-false n 8 p in
          let s : negsuc (16 - suc n) ≡ sub_ℕ n 16 = simp (lt-ltb n 16 l) in
          let q : to + suc (16 - suc n) ≡ x = back (16 - suc n) (ap (λ (z : ℤ). reaches x z to) s ∙ e) in
          omega arith

  by_half : x < 2 ^ 32 → (n : ℕ) → n < 16 → reaches x (delta_of n) to ≡ true → n ≡ half_to x to
  unfolding half_to
  by_half h n l e = let q = led n l e in omega arith

pub half_below : (x to : ℕ) → half_to x to < 16
unfolding half_to
half_below x to = omega arith

-- a byte is its halves
halves : (d l : ℕ) → field (bits (l + 7) l) d ≡ 16 * field (bits (l + 7) (l + 4)) d + field (bits (l + 3) l) d
unfolding field
halves d l =
    let whole : l + 7 - l + 1 ≡ 8 = omega arith in
    let high : l + 7 - (l + 4) + 1 ≡ 4 = omega arith in
    let low : l + 3 - l + 1 ≡ 4 = omega arith in
    let q = d / 2 ^ l in
    let e : q % 256 ≡ 16 * (q / 16 % 16) + q % 16 = omega arith in
    rw (whole, high, low, ← shr-shr d l 4) e

-- delta i of two dwords
module _ (d6 d7 : ℕ) where
  abbrev pub low_half : ℕ → ℕ
  low_half i = field (bits (byte_low i + 3) (byte_low i)) (delta_dword d6 d7 i)

  abbrev pub high_half : ℕ → ℕ
  high_half i = field (bits (byte_low i + 7) (byte_low i + 4)) (delta_dword d6 d7 i)

  pub low_small : (i : ℕ) → low_half i < 16
  low_small i = half_small (byte_low i + 3) (byte_low i) (delta_dword d6 d7 i) refl

  pub high_small : (i : ℕ) → high_half i < 16
  high_small i = half_small (byte_low i + 7) (byte_low i + 4) (delta_dword d6 d7 i) (omega arith)

  pub byte_halves : (i : ℕ) → delta_byte d6 d7 i ≡ 16 * high_half i + low_half i
  unfolding delta_byte
  byte_halves i = halves (delta_dword d6 d7 i) (byte_low i)

  -- deltas of one byte are one delta
  meets_same : (x y jx jy i j : ℕ) → delta_byte d6 d7 i ≡ delta_byte d6 d7 j → meets_at x y (delta_x d6 d7 i) (delta_y d6 d7 i) jx jy ≡ meets_at x y (delta_x d6 d7 j) (delta_y d6 d7 j) jx jy
  unfolding delta_x delta_y
  meets_same x y jx jy i j e =
      let q = sym (byte_halves i) ∙ e ∙ byte_halves j in
      let low : low_half i ≡ low_half j = omega (arith, q, low_small i, low_small j) in
      let high : high_half i ≡ high_half j = omega (arith, q, low_small i, low_small j) in
      ap₂ (λ (a b : ℕ). meets_at x y (delta_of a) (delta_of b) jx jy) low high

module _ (x y mask d6 d7 jx jy : ℕ) (hx : x < 2 ^ 32) (hy : y < 2 ^ 32) where
  abbrev byte : ℕ
  byte = 16 * half_to y jy + half_to x jx

  -- what leads there is that byte
  leads_byte : (i : ℕ) → leads_at x y mask d6 d7 jx jy i ≡ true → is_byte mask d6 d7 byte i ≡ true
  unfolding leads_at meets_at is_byte delta_x delta_y
  leads_byte i e =
      let m = and_right (bit_set i mask) _ e in
      let low = by_half x jx hx (low_half d6 d7 i) (low_small d6 d7 i) (and_left (reaches x (delta_x d6 d7 i) jx) _ m) in
      let high = by_half y jy hy (high_half d6 d7 i) (high_small d6 d7 i) (and_right (reaches x (delta_x d6 d7 i) jx) _ m) in
      simp (and_left (bit_set i mask) _ e, eq-eqb (delta_byte d6 d7 i) byte (byte_halves d6 d7 i ∙ ap₂ (λ (a b : ℕ). 16 * a + b) high low))

  leads_not : (i : ℕ) → is_byte mask d6 d7 byte i ≡ false → leads_at x y mask d6 d7 jx jy i ≡ false
  leads_not i e = false_from_ne_true (leads_at x y mask d6 d7 jx jy i) (λ p. not_both (is_byte mask d6 d7 byte i) (leads_byte i p) e)

  -- what `lowest_delta` shows: i is the lowest delta that is the byte, made of the halves u and v
  module _ (i u v : ℕ) (eu : u ≡ half_to x jx) (ev : v ≡ half_to y jy) (ei : i ≡ lowest_byte mask d6 d7 (16 * v + u)) where
    is_lowest : lowest_byte mask d6 d7 byte ≡ i
    is_lowest = sym (ei ∙ ap₂ (λ (a b : ℕ). lowest_byte mask d6 d7 (16 * a + b)) ev eu)

    before : NoneBelow (leads_at x y mask d6 d7 jx jy) i
    unfolding lowest_byte
    before j h = leads_not j (find_before (is_byte mask d6 d7 byte) 8 j (subst (λ (n : ℕ). j < n) (sym is_lowest) h))

    pub lowest_none : i ≡ 8 → 8 ≡ lowest_at x y mask d6 d7 jx jy
    unfolding lowest_at
    lowest_none e = sym (none (leads_at x y mask d6 d7 jx jy) 8 i (omega arith) before)

    module _ (b : Bool) (dx dy : ℤ) (l : i ≤ 8) (n : i ≡ 8 → ⊥) (ex : dx ≡ delta_x d6 d7 i) (ey : dy ≡ delta_y d6 d7 i)
        (eb : b ≡ meets_at x y (to_z w32 (of_z w32 dx)) (to_z w32 (of_z w32 dy)) jx jy) where
      met : b ≡ meets_at x y (delta_x d6 d7 i) (delta_y d6 d7 i) jx jy
      met =
          eb
          ∙ ap₂ (λ (p q : ℤ). meets_at x y p q jx jy)
          (ap (λ (z : ℤ). to_z w32 (of_z w32 z)) ex ∙ to_z-of_z {w = w32} {z = delta_x d6 d7 i} (x_fits d6 d7 i))
          (ap (λ (z : ℤ). to_z w32 (of_z w32 z)) ey ∙ to_z-of_z {w = w32} {z = delta_y d6 d7 i} (y_fits d6 d7 i))

      here : i < 8
      here = omega (arith, n)

      is_byte_lem : bit_set i mask && eqb (delta_byte d6 d7 i) byte ≡ true
      unfolding lowest_byte is_byte
      is_byte_lem =
          subst (λ (k : ℕ). is_byte mask d6 d7 byte k ≡ true) is_lowest (find_at (is_byte mask d6 d7 byte) 8 (subst (λ (k : ℕ). k < 8) (sym is_lowest) here))

      pub lowest_found : b ≡ true → i ≡ lowest_at x y mask d6 d7 jx jy
      unfolding lowest_at leads_at
      lowest_found e = sym (found (leads_at x y mask d6 d7 jx jy) 8 i here before (simp (and_left (bit_set i mask) _ is_byte_lem, sym met ∙ e)))

      off : (j : ℕ) → leads_at x y mask d6 d7 jx jy j ≡ true → b ≡ true
      unfolding leads_at is_byte
      off j e =
          let s = and_right (bit_set j mask) _ (leads_byte j e) in
          let q = eqb-true (delta_byte d6 d7 i) byte (and_right (bit_set i mask) _ is_byte_lem) ∙ sym (eqb-true (delta_byte d6 d7 j) byte s) in
          met ∙ meets_same d6 d7 x y jx jy i j q ∙ and_right (bit_set j mask) _ e

      pub lowest_off : b ≡ false → 8 ≡ lowest_at x y mask d6 d7 jx jy
      unfolding lowest_at
      lowest_off e = sym (none (leads_at x y mask d6 d7 jx jy) 8 8 (le_refl 8) (λ j h. false_from_ne_true (leads_at x y mask d6 d7 jx jy j) (λ p. not_both b (off j p) e)))

-- one bit, by shift and mask
pub bit : (i m : ℕ) → field (bits i i) m ≡ bit_and (m / 2 ^ i) 1
unfolding field
bit i m = let e : i - i + 1 ≡ 1 = omega arith in ap (λ (w : ℕ). m / 2 ^ i % 2 ^ w) e ∙ sym (shr_and_one m i)

-- the byte of a delta, by shift and mask
pub taken_byte : (d6 d7 i w : ℕ) → w ≡ delta_dword d6 d7 i → bit_and (w / 2 ^ (8 * (i % 4))) 255 ≡ delta_byte d6 d7 i
unfolding delta_byte
taken_byte d6 d7 i w e =
    let k : byte_low i + 7 - byte_low i + 1 ≡ 8 = omega arith in
    ap (λ (d : ℕ). bit_and (d / 2 ^ byte_low i) 255) e
    ∙ sym (taken (byte_low i + 7) (byte_low i) (delta_dword d6 d7 i) ∙ ap (λ (n : ℕ). bit_and (delta_dword d6 d7 i / 2 ^ byte_low i) (2 ^ n - 1)) k)

-- no bit is set above those that a shift leaves none of
pub bits_above : (mask i : ℕ) → mask / 2 ^ i ≡ 0 → (j : ℕ) → i ≤ j → bit_set j mask ≡ false
bits_above mask i e j h =
    let k : i + (j - i) ≡ j = omega arith in
    let z : mask / 2 ^ j ≡ 0 = ap (λ (n : ℕ). mask / 2 ^ n) (sym k) ∙ sym (shr-shr mask i (j - i)) ∙ ap (λ (n : ℕ). n / 2 ^ (j - i)) e ∙ zero-div (2 ^ (j - i)) in
    set_at j mask ∙ ap (λ (n : ℕ). eqb (n % 2) 1) z

module _ (mask d6 d7 byte i : ℕ) where
  -- what `is_byte` shows
  pub byte_off : (bit_and (mask / 2 ^ i) 1 ≡ 1 → ⊥) → false ≡ is_byte mask d6 d7 byte i
  unfolding is_byte
  byte_off n = simp (ne_eqb (field (bits i i) mask) 1 (λ e. n (sym (bit i mask) ∙ e)))

  pub byte_on : (b : ℕ) → bit_and (mask / 2 ^ i) 1 ≡ 1 → b ≡ delta_byte d6 d7 i → eqb b byte ≡ is_byte mask d6 d7 byte i
  unfolding is_byte
  byte_on b e q = ap (λ (n : ℕ). eqb n byte) q ∙ sym (ap (λ (t : Bool). t && eqb (delta_byte d6 d7 i) byte) (eq-eqb (field (bits i i) mask) 1 (bit i mask ∙ e)))

  -- what `lowest_byte` shows
  abbrev test : ℕ → Bool
  test = is_byte mask d6 d7 byte

  above : mask / 2 ^ i ≡ 0 → (j : ℕ) → i ≤ j → test j ≡ false
  unfolding is_byte
  above e j h = simp (bits_above mask i e j h)

  pub byte_rest : NoneBelow test i → mask / 2 ^ i ≡ 0 → 8 ≡ lowest_byte mask d6 d7 byte
  unfolding lowest_byte
  byte_rest off e = sym (none test 8 8 (le_refl 8) (λ j h. go j (ltb j i) refl))
    where
      go : (j : ℕ) (t : Bool) → ltb j i ≡ t → test j ≡ false
      go j true p = off j (ltb-true j i p)
      go j false p = above e j (ltb-false j i p)

  pub byte_found : (b : Bool) → i < 8 → NoneBelow test i → b ≡ test i → b ≡ true → i ≡ lowest_byte mask d6 d7 byte
  unfolding lowest_byte
  byte_found b h off e q = sym (found test 8 i h off (sym e ∙ q))

  pub byte_next : (b : Bool) → NoneBelow test i → b ≡ test i → b ≡ false → NoneBelow test (i + 1)
  byte_next b off e q = none_next test i off (sym e ∙ q)

  pub byte_none : NoneBelow test i → 8 ≤ i → 8 ≡ lowest_byte mask d6 d7 byte
  unfolding lowest_byte
  byte_none off h = sym (none test 8 i h off)

pub ruleset byte_laws = (byte_rest, byte_found, byte_next, byte_none)
