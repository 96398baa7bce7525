-- What a loop that searches shows of `find_first`. Assumes nothing.
use mathlib.Core.Path.{◌≡◌, refl, ap, sym, ◌∙◌, subst}
use mathlib.Core.Bool.{Bool, true, false, cond}
use Prim.Native.Nat.{ℕ, zero, suc, ◌+◌, ◌-◌, ◌<◌, ◌≤◌}
use mathlib.Core.Logic.{◌⊎◌, inl, inr}
use native.Mathlib.Nat.{eq-or-lt_of_le}
use native.Mathlib.Numerals.{add-one}
use native.Mathlib.Omega.{arith}
use lib.Dec.{T, ltb}
use borrow.Author.Tests.{ltb-true, ltb-false}
use Rattle.laws.specs.Find.{first_from, find_first, NoneBelow}

-- one turn, as a loop counts
module _ (f : ℕ → Bool) (n i : ℕ) where
  step : i < n → first_from (n - i) f i ≡ cond (f i) i (first_from (n - (i + 1)) f (i + 1))
  unfolding first_from
  step h =
      let e : n - i ≡ suc (n - (i + 1)) = omega arith in
      ap (λ (m : ℕ). first_from m f i) e ∙ ap (λ (m : ℕ). cond (f i) i (first_from (n - (i + 1)) f m)) (sym (add-one i))

  pub hit : i < n → f i ≡ true → first_from (n - i) f i ≡ i
  hit h e = step h ∙ ap (λ (b : Bool). cond b i (first_from (n - (i + 1)) f (i + 1))) e

  pub miss : i < n → f i ≡ false → first_from (n - i) f i ≡ first_from (n - (i + 1)) f (i + 1)
  miss h e = step h ∙ ap (λ (b : Bool). cond b i (first_from (n - (i + 1)) f (i + 1))) e

  pub over : n ≤ i → first_from (n - i) f i ≡ i
  unfolding first_from
  over h = let e : n - i ≡ 0 = omega arith in ap (λ (m : ℕ). first_from m f i) e

-- the start of the loop
pub start : (f : ℕ → Bool) (n : ℕ) → first_from (n - 0) f 0 ≡ find_first n f
unfolding find_first
start f n = let e : n - 0 ≡ n = omega arith in ap (λ (m : ℕ). first_from m f 0) e

-- what holds at a find
from_at : (f : ℕ → Bool) (n i : ℕ) → first_from n f i < i + n → f (first_from n f i) ≡ true
unfolding first_from
from_at f zero i h = absurd (omega arith)
from_at f (suc n) i h = go (f i) refl (from_at f n (suc i)) h
  where
    go : (b : Bool) → f i ≡ b → (first_from n f (suc i) < suc i + n → f (first_from n f (suc i)) ≡ true)
        → cond b i (first_from n f (suc i)) < i + suc n → f (cond b i (first_from n f (suc i))) ≡ true
    go true e ih h = e
    go false e ih h = ih (omega arith)

pub find_at : (f : ℕ → Bool) (n : ℕ) → find_first n f < n → f (find_first n f) ≡ true
unfolding find_first
find_at f n h = from_at f n 0 (omega arith)

-- nothing is found before the find
from_before : (f : ℕ → Bool) (n i k : ℕ) → i ≤ k → k < first_from n f i → f k ≡ false
unfolding first_from
from_before f zero i k l h = absurd (omega arith)
from_before f (suc n) i k l h = go (f i) refl (from_before f n (suc i) k) h
  where
    go : (b : Bool) → f i ≡ b → (suc i ≤ k → k < first_from n f (suc i) → f k ≡ false) → k < cond b i (first_from n f (suc i)) → f k ≡ false
    go true e ih h = absurd (omega arith)
    go false e ih h = at (eq-or-lt_of_le l)
      where
        at : (i ≡ k) ⊎ (i < k) → f k ≡ false
        at (inl q) = subst (λ (m : ℕ). f m ≡ false) q e
        at (inr q) = ih q h

pub find_before : (f : ℕ → Bool) (n k : ℕ) → k < find_first n f → f k ≡ false
unfolding find_first
find_before f n k h = from_before f n 0 k (omega arith) h

-- a search that goes on from where nothing was found before
pub none_next : (f : ℕ → Bool) (n : ℕ) → NoneBelow f n → f n ≡ false → NoneBelow f (n + 1)
none_next f n off e j h = go (eq-or-lt_of_le (let l : j ≤ n = omega arith in l))
  where
    go : (j ≡ n) ⊎ (j < n) → f j ≡ false
    go (inl q) = subst (λ (m : ℕ). f m ≡ false) (sym q) e
    go (inr q) = off j q

find_le : (f : ℕ → Bool) (n i : ℕ) → first_from n f i ≤ i + n
unfolding first_from
find_le f zero i = omega arith
find_le f (suc n) i = go (f i) (find_le f n (suc i))
  where
    go : (t : Bool) → first_from n f (suc i) ≤ suc i + n → cond t i (first_from n f (suc i)) ≤ i + suc n
    go true ih = omega arith
    go false ih = omega arith

never : (f : ℕ → Bool) (k : ℕ) → f k ≡ true → f k ≡ false → ⊥
never f k p q = subst T (sym p ∙ q) tt

pub found : (f : ℕ → Bool) (n k : ℕ) → k < n → NoneBelow f k → f k ≡ true → find_first n f ≡ k
found f n k h off on = go (eq-or-lt_of_le at_least)
  where
    at_most : find_first n f ≤ k
    at_most = go_le (ltb k (find_first n f)) refl
      where
        go_le : (t : Bool) → ltb k (find_first n f) ≡ t → find_first n f ≤ k
        go_le true p = absurd (never f k on (find_before f n k (ltb-true k (find_first n f) p)))
        go_le false p = ltb-false k (find_first n f) p

    at_least : k ≤ find_first n f
    at_least = go_ge (ltb (find_first n f) k) refl
      where
        go_ge : (t : Bool) → ltb (find_first n f) k ≡ t → k ≤ find_first n f
        go_ge true p =
            let l : find_first n f < k = ltb-true (find_first n f) k p in
            absurd (never f (find_first n f) (find_at f n (omega arith)) (off (find_first n f) l))
        go_ge false p = ltb-false (find_first n f) k p

    go : (k ≡ find_first n f) ⊎ (k < find_first n f) → find_first n f ≡ k
    go (inl q) = sym q
    go (inr q) = absurd (omega (arith, at_most))

pub none : (f : ℕ → Bool) (n k : ℕ) → n ≤ k → NoneBelow f k → find_first n f ≡ n
unfolding find_first
none f n k h off = go (ltb (find_first n f) n) refl
  where
    go : (t : Bool) → ltb (find_first n f) n ≡ t → find_first n f ≡ n
    go true p =
        let l : find_first n f < n = ltb-true (find_first n f) n p in
        absurd (never f (find_first n f) (find_at f n l) (off (find_first n f) (omega arith)))
    go false p = let l : n ≤ find_first n f = ltb-false (find_first n f) n p in let m : find_first n f ≤ 0 + n = find_le f n 0 in omega arith
