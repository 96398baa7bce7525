-- The code's table of deltas, and the half byte that a shift leaves. Assumes nothing.
use Rattle.std.proofs.Common.{◌≡◌, ℕ, ◌+◌, ◌-◌, ◌/◌, ◌%◌, ◌^◌, ◌<◌, ◌≤◌, Bool, true, false, cond, T, ltb, List, length, get_or, ℤ, pos, sym, refl, ap, ◌∙◌, subst, ap₂, mod-lt, arith, lit<, to_z-of_z, w32, SFits, to_z, of_z, ltb-false, ltb-true, lt-ltb}
use lib.Bits.{bit_and, and_le_r}
use lib.IntN.{sub_ℕ}
use lib.Signed.{mag}
use Rattle.laws.specs.BitRanges.{bits, field}
use Rattle.laws.proofs.BitRanges.{taken_low}
use Rattle.deltas.specs.Whole.{eq_ℤ}
use Rattle.deltas.specs.Deltas.{delta_of, delta_dword, byte_low, delta_x, delta_y}
use Rattle.laws.proofs.Table.{every, at}
use Rattle.deltas.proofs.Signed.{eq_ℤ→eq}

-- an entry, as the machine holds it, is the delta of its place
abbrev pub right : ℕ → ℤ → Bool
right n z = eq_ℤ (to_z w32 (of_z w32 z)) (delta_of n)

-- the rule of any table that passes the computed test
pub by_table : (xs : List ℤ) (n : ℕ) → T (every right (pos 0) 0 xs) → 16 ≤ length xs → to_z w32 (of_z w32 (get_or xs (bit_and n 15) (pos 0))) ≡ delta_of (field (bits 3 0) n)
by_table xs n t l =
    let h : bit_and n 15 < length xs = omega (arith, and_le_r n 15) in
    eq_ℤ→eq (to_z w32 (of_z w32 (get_or xs (bit_and n 15) (pos 0)))) (delta_of (bit_and n 15)) (at right (pos 0) xs t (bit_and n 15) h)
    ∙ ap delta_of (sym (taken_low 3 n))

delta_mag : (n : ℕ) → n < 16 → mag (delta_of n) < 8
unfolding delta_of
delta_mag n h = go (ltb n 8) refl
  where
    go : (t : Bool) → ltb n 8 ≡ t → mag (cond t (pos n) (sub_ℕ n 16)) < 8
    go true e = ltb-true n 8 e
    go false e = let l = ltb-false n 8 e in simp (lt-ltb n 16 h) (omega arith)

-- four bits from bit l on, after a shift by l
shifted : (h l d : ℕ) → h ≡ l + 3 → field (bits 3 0) (d / 2 ^ l) ≡ field (bits h l) d
unfolding field
shifted h l d e =
    let p : d / 2 ^ l / 2 ^ 0 ≡ d / 2 ^ l = omega arith in
    let q : 3 - 0 + 1 ≡ h - l + 1 = omega arith in
    ap₂ (λ (x k : ℕ). x % 2 ^ k) p q

low_half : (n : ℕ) → field (bits 3 0) n < 16
unfolding field
low_half n = mod-lt (n / 2 ^ 0) (lit< tt)

-- what `delta_x` and `delta_y` show: z is the delta at bit l of w
pub by_half : (z : ℤ) (w d h l : ℕ) → w ≡ d → h ≡ l + 3 → z ≡ delta_of (field (bits 3 0) (w / 2 ^ l)) → to_z w32 (of_z w32 z) ≡ delta_of (field (bits h l) d)
by_half z w d h l e f g =
    ap (λ (x : ℤ). to_z w32 (of_z w32 x)) g
    ∙ to_z-of_z {w = w32} {z = delta_of (field (bits 3 0) (w / 2 ^ l))} (record { sfits = omega (arith, delta_mag (field (bits 3 0) (w / 2 ^ l)) (low_half (w / 2 ^ l))) })
    ∙ ap delta_of (shifted h l w f ∙ ap (field (bits h l)) e)

pub half_small : (h l d : ℕ) → h ≡ l + 3 → field (bits h l) d < 16
half_small h l d e = subst (λ (n : ℕ). n < 16) (shifted h l d e) (low_half (d / 2 ^ l))

-- a delta is from -8 to 7, and fits 32 bits
small : (h l d : ℕ) → h ≡ l + 3 → mag (delta_of (field (bits h l) d)) < 8
small h l d e = delta_mag (field (bits h l) d) (half_small h l d e)

module _ (d6 d7 i : ℕ) where
  pub x_small : mag (delta_x d6 d7 i) < 8
  unfolding delta_x
  x_small = small (byte_low i + 3) (byte_low i) (delta_dword d6 d7 i) refl

  pub y_small : mag (delta_y d6 d7 i) < 8
  unfolding delta_y
  y_small = small (byte_low i + 7) (byte_low i + 4) (delta_dword d6 d7 i) (omega arith)

  pub x_fits : SFits w32 (delta_x d6 d7 i)
  x_fits = record { sfits = omega (arith, x_small) }

  pub y_fits : SFits w32 (delta_y d6 d7 i)
  y_fits = record { sfits = omega (arith, y_small) }
