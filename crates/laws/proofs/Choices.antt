-- A choice by a test, and what several tests say of each. Assumes nothing.
use mathlib.Core.Path.{◌≡◌, refl}
use mathlib.Core.Bool.{Bool, true, false, cond, ◌&&◌, ◌||◌}
use mathlib.Core.List.{List, [], ◌∷◌}
use Prim.Native.Nat.{ℕ, zero, suc}
use lib.ListN.{get_or}
use Rattle.laws.specs.AnyOf.{any_of}
use native.Mathlib.Omega.{arith}

-- what holds of both choices, each where the test says so, holds of the choice
pub by_cond : {A : Type 0} (P : A → Type 0) (t : Bool) (x y : A) → (t ≡ true → P x) → (t ≡ false → P y) → P (cond t x y)
by_cond P true x y p q = p refl
by_cond P false x y p q = q refl

-- two choices by one test
pub two_cond : {A B : Type 0} (R : A → B → Type 0) (t : Bool) (x y : A) (x' y' : B) → (t ≡ true → R x x') → (t ≡ false → R y y') → R (cond t x y) (cond t x' y')
two_cond R true x y x' y' p q = p refl
two_cond R false x y x' y' p q = q refl

-- a test passes or it does not
pub by_test : {C : Type 0} (t : Bool) → (t ≡ true → C) → (t ≡ false → C) → C
by_test true p q = p refl
by_test false p q = q refl

-- where no test of a list passes, none does
pub none_of : (ts : List Bool) (i : ℕ) → any_of ts ≡ false → get_or ts i false ≡ false
none_of [] i e = refl
none_of (true ∷ ts) i e = cc
none_of (false ∷ ts) zero e = refl
none_of (false ∷ ts) (suc i) e = none_of ts i e

pub or_false : (a : Bool) → a || false ≡ a
or_false true = refl
or_false false = refl

-- what is true in both parts is true in each
pub and_left : (a b : Bool) → a && b ≡ true → a ≡ true
and_left true b e = refl
and_left false b e = cc

pub and_right : (a b : Bool) → a && b ≡ true → b ≡ true
and_right true b e = e
and_right false b e = cc

-- no test passes and does not
pub not_both : (t : Bool) → t ≡ true → t ≡ false → ⊥
not_both t p q = let z : ◌≡◌ {A = ℕ} 0 1 = cc in omega arith
