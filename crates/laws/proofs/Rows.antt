-- A table by its rows: what decides has a number, which no row has as 0. Assumes nothing.
use mathlib.Core.Path.{◌≡◌, refl, subst⁻¹}
use mathlib.Core.Logic.{◌⊎◌, inl, inr}
use mathlib.Core.Bool.{Bool, true, false, not, cond, ◌&&◌}
use mathlib.Core.List.{List, [], ◌∷◌, ◌++◌}
use Prim.Native.Nat.{ℕ, zero, suc}
use lib.Dec.{T, eqb, T_not}
use Rattle.laws.specs.Rows.{Row, first_row}
use Rattle.laws.proofs.Tests.{both_left, both_right}
use Rattle.laws.proofs.Choices.{by_cond}

-- does row i hold? There is none past the end
abbrev pub holds_at : {A : Type 0} → List (Row A) → ℕ → Bool
holds_at [] i = false
holds_at (r ∷ rs) zero = r.holds
holds_at (r ∷ rs) (suc i) = holds_at rs i

-- what is true of each row that holds, and where none does, is true of what decides
abbrev pub EachRow : {A : Type 0} → (A → Type 0) → List (Row A) → Type 0
EachRow P [] = Unit
EachRow P (r ∷ rs) = (r.holds ≡ true → P r.gives) × EachRow P rs

pub by_rows : {A : Type 0} (P : A → Type 0) (x : A) (rs : List (Row A)) → P x → EachRow P rs → P (first_row x rs)
by_rows P x [] p q = p
by_rows P x (r ∷ rs) p q = by_cond P r.holds r.gives (first_row x rs) q.0 (λ _. by_rows P x rs p q.1)

-- The same rows before two endings: one of them decides in both, or none does.
pub same_or_rest : {A : Type 0} (rs : List (Row A)) (x y : A) → (first_row y rs ≡ first_row x rs) ⊎ ((first_row x rs ≡ x) × (first_row y rs ≡ y))
same_or_rest [] x y = inr (refl, refl)
same_or_rest (r ∷ rs) x y = go r.holds (same_or_rest rs x y)
  where
    go : (t : Bool) → (first_row y rs ≡ first_row x rs) ⊎ ((first_row x rs ≡ x) × (first_row y rs ≡ y))
        → (cond t r.gives (first_row y rs) ≡ cond t r.gives (first_row x rs))
        ⊎ ((cond t r.gives (first_row x rs) ≡ x) × (cond t r.gives (first_row y rs) ≡ y))
    go true ih = inl refl
    go false ih = ih

-- The number of what a row gives.
module _ {A : Type 0} (number : A → ℕ) where
  -- no row of the table has the number 0
  abbrev pub numbered : List (Row A) → Bool
  numbered [] = true
  numbered (r ∷ rs) = not (eqb (number r.gives) 0) && numbered rs

  never : (r : Row A) (rs : List (Row A)) → T (numbered (r ∷ rs)) → number r.gives ≡ 0 → ⊥
  never r rs t e = T_not (eqb (number r.gives) 0) (both_left (not (eqb (number r.gives) 0)) (numbered rs) t) (subst⁻¹ (λ (n : ℕ). T (eqb n 0)) e tt)

  -- one row, and what the rows after it say
  module _ (r : Row A) (rs : List (Row A)) (t : T (numbered (r ∷ rs))) where
    one_off : (x : A) (b : Bool) → number (cond b r.gives x) ≡ 0 → b ≡ false
    one_off x true e = absurd (never r rs t e)
    one_off x false e = refl

    one_on : (x : A) (b : Bool) → number (cond b r.gives x) ≡ 0 → number x ≡ 0
    one_on x true e = absurd (never r rs t e)
    one_on x false e = e

    rest : T (numbered rs)
    rest = both_right (not (eqb (number r.gives) 0)) (numbered rs) t

  -- a table that decides on number 0: no row holds
  pub no_row : (x : A) (rs : List (Row A)) → T (numbered rs) → number (first_row x rs) ≡ 0 → (i : ℕ) → holds_at rs i ≡ false
  no_row x [] t e i = refl
  no_row x (r ∷ rs) t e zero = one_off r rs t (first_row x rs) r.holds e
  no_row x (r ∷ rs) t e (suc i) = no_row x rs (rest r rs t) (one_on r rs t (first_row x rs) r.holds e) i

  -- and what decides is what holds where no row does
  pub none_decides : (x : A) (rs : List (Row A)) → T (numbered rs) → number (first_row x rs) ≡ 0 → first_row x rs ≡ x
  none_decides x [] t e = refl
  none_decides x (r ∷ rs) t e = go r.holds (none_decides x rs (rest r rs t)) e
    where
      go : (b : Bool) → (number (first_row x rs) ≡ 0 → first_row x rs ≡ x) → number (cond b r.gives (first_row x rs)) ≡ 0 → cond b r.gives (first_row x rs) ≡ x
      go true ih e = absurd (never r rs t e)
      go false ih e = ih e

  -- A table in two parts: the second decides where no row of the first holds ..
  pub second_decides : (x : A) (rs ss : List (Row A)) → T (numbered rs) → number (first_row x rs) ≡ 0 → first_row x (rs ++ ss) ≡ first_row x ss
  second_decides x [] ss t e = refl
  second_decides x (r ∷ rs) ss t e = go r.holds (second_decides x rs ss (rest r rs t)) e
    where
      go : (b : Bool) → (number (first_row x rs) ≡ 0 → first_row x (rs ++ ss) ≡ first_row x ss) → number (cond b r.gives (first_row x rs)) ≡ 0
          → cond b r.gives (first_row x (rs ++ ss)) ≡ first_row x ss
      go true ih e = absurd (never r rs t e)
      go false ih e = ih e

  -- .. else the first; number 0 is where no row holds
  pub first_decides : (x : A) (rs ss : List (Row A)) → number x ≡ 0 → (number (first_row x rs) ≡ 0 → ⊥) → first_row x (rs ++ ss) ≡ first_row x rs
  first_decides x [] ss z n = absurd (n z)
  first_decides x (r ∷ rs) ss z n = go r.holds (first_decides x rs ss z) n
    where
      go : (b : Bool) → ((number (first_row x rs) ≡ 0 → ⊥) → first_row x (rs ++ ss) ≡ first_row x rs) → (number (cond b r.gives (first_row x rs)) ≡ 0 → ⊥)
          → cond b r.gives (first_row x (rs ++ ss)) ≡ cond b r.gives (first_row x rs)
      go true ih n = refl
      go false ih n = ih n

  -- and no row of the first part holds where the whole decides on number 0
  pub first_off : (x : A) (rs ss : List (Row A)) → T (numbered rs) → number (first_row x (rs ++ ss)) ≡ 0 → number x ≡ 0 → number (first_row x rs) ≡ 0
  first_off x [] ss t e z = z
  first_off x (r ∷ rs) ss t e z = go r.holds (first_off x rs ss (rest r rs t)) e
    where
      go : (b : Bool) → (number (first_row x (rs ++ ss)) ≡ 0 → number x ≡ 0 → number (first_row x rs) ≡ 0) → number (cond b r.gives (first_row x (rs ++ ss))) ≡ 0
          → number (cond b r.gives (first_row x rs)) ≡ 0
      go true ih e = absurd (never r rs t e)
      go false ih e = ih e z
