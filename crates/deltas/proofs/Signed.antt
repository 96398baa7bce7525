-- The machine's signed sums against whole numbers. Assumes nothing.
use Rattle.std.proofs.Common.{◌≡◌, ℕ, suc, ◌+◌, ◌-◌, ◌^◌, ◌<◌, ◌≤◌, Bool, true, false, cond, T, eqb, ltb, ℤ, pos, negsuc, ◌+ℤ◌, refl, ap, ◌∙◌, ap₂, arith, eqb→eq, to_z-of_z, w32, w64, SFits, to_z, of_z, ne_eqb}
use mathlib.Core.Path.{subst⁻¹}
use lib.IntN.{sub_ℕ}
use lib.Signed.{mag}
use mir.Facts.{to_z_pos}
use Rattle.deltas.specs.Whole.{eq_ℤ}
use Rattle.deltas.specs.Meets.{reaches}

pub eq_ℤ→eq : (a b : ℤ) → T (eq_ℤ a b) → a ≡ b
eq_ℤ→eq (pos a) (pos b) t = ap pos (eqb→eq a b t)
eq_ℤ→eq (pos a) (negsuc b) t = absurd t
eq_ℤ→eq (negsuc a) (pos b) t = absurd t
eq_ℤ→eq (negsuc a) (negsuc b) t = ap negsuc (eqb→eq a b t)

sub_mag : (a b : ℕ) → mag (sub_ℕ a b) ≤ a + b
sub_mag a b = go (ltb a b) refl
  where
    go : (t : Bool) → ltb a b ≡ t → mag (cond t (negsuc (b - suc a)) (pos (a - b))) ≤ a + b
    go true e = omega arith
    go false e = omega arith

add_mag : (x : ℕ) (d : ℤ) → mag (pos x +ℤ d) ≤ x + mag d + 1
add_mag x (pos b) = omega arith
add_mag x (negsuc b) = omega (arith, sub_mag x (suc b))

-- the machine compares bits; against a number that is not negative that compares whole numbers
compared : (z : ℤ) (y : ℕ) → SFits w64 z → y < 2 ^ 63 → eqb (of_z w64 z) y ≡ eq_ℤ z (pos y)
compared (pos m) y f h = refl
compared (negsuc m) y f h = let g : m < 2 ^ 63 = f.sfits in ne_eqb (2 ^ 64 - suc m) y (λ q. omega arith)

-- a signed number of 32 bits, made one of 64
pub widened : (d : ℤ) → SFits w32 d → SFits w64 (to_z w32 (of_z w32 d))
widened d f = subst⁻¹ (λ (z : ℤ). SFits w64 z) (to_z-of_z {w = w32} {z = d} f) (record { sfits = omega (arith, f.sfits) })

-- a position plus a delta, at 64 bits
module _ (x : ℕ) (d : ℤ) (hx : x < 2 ^ 32) (hd : SFits w32 d) where
  abbrev sum : ℤ
  sum = to_z w64 x +ℤ to_z w64 (of_z w64 (to_z w32 (of_z w32 d)))

  is_sum : sum ≡ pos x +ℤ d
  is_sum = ap₂ ◌+ℤ◌ (to_z_pos w64 (omega arith)) (to_z-of_z {w = w64} {z = to_z w32 (of_z w32 d)} (widened d hd) ∙ to_z-of_z {w = w32} {z = d} hd)

  fits : SFits w64 (pos x +ℤ d)
  fits = record { sfits = omega (arith, add_mag x d, hd.sfits) }

  pub sum_reaches : (to : ℕ) → to < 2 ^ 32 → eqb (of_z w64 sum) to ≡ reaches x d to
  unfolding reaches
  sum_reaches to h = ap (λ (z : ℤ). eqb (of_z w64 z) to) is_sum ∙ compared (pos x +ℤ d) to fits (omega arith)

-- a signed argument, as a callee's contract has it
pub passed : (b : Bool) (x : ℕ) (d : ℤ) (to : ℕ) → SFits w32 d → b ≡ reaches x (to_z w32 (of_z w32 d)) to → b ≡ reaches x d to
passed b x d to f e = e ∙ ap (λ (z : ℤ). reaches x z to) (to_z-of_z {w = w32} {z = d} f)
