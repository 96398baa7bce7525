-- A list filled from its start: a turn of the loop that fills it, an entry, and a list that differs in one. Assumes nothing.
use mathlib.Core.Path.{◌≡◌, refl, sym, ap, ◌∙◌}
use mathlib.Core.List.{List}
use Prim.Native.Nat.{ℕ, zero, suc, ◌+◌, ◌≤◌, ◌<◌}
use native.Mathlib.Numerals.{add-one}
use native.Mathlib.Omega.{arith}
use lib.Dec.{eqb}
use lib.ListN.{length, get_or, set, length-set}
use lib.Seq.{get_or-set_same, get_or-set_other, set-set, set_comm}
use borrow.Author.Tests.{eqb-true, eqb-false}
use Rattle.laws.specs.Filled.{filled}
use Rattle.laws.proofs.Choices.{by_test}

pub filled_turn : {A : Type 0} (f : ℕ → A) (l : List A) (i : ℕ) → set (filled f i l) i (f i) ≡ filled f (i + 1) l
unfolding filled
filled_turn f l i = ap (λ (k : ℕ). filled f k l) (sym (add-one i))

module _ {A : Type 0} (f : ℕ → A) (l : List A) where
  pub filled_long : (n : ℕ) → length (filled f n l) ≡ length l
  unfolding filled
  filled_long zero = refl
  filled_long (suc n) = length-set (filled f n l) n (f n) ∙ filled_long n

  pub filled_at : (d : A) (n b : ℕ) → b < n → n ≤ length l → get_or (filled f n l) b d ≡ f b
  unfolding filled
  filled_at d zero b h m = absurd (omega arith)
  filled_at d (suc n) b h m =
      by_test (eqb b n)
      (λ q. let e = eqb-true b n q in rw e (get_or-set_same (filled f n l) n (f n) d (omega (arith, filled_long n))))
      (λ q. let e = eqb-false b n q in get_or-set_other (filled f n l) n b (f n) d e ∙ filled_at d n b (omega arith) (omega arith))

module _ {A : Type 0} (f f' : ℕ → A) (l : List A) where
  pub filled_same : (n : ℕ) → ((k : ℕ) → k < n → f k ≡ f' k) → filled f n l ≡ filled f' n l
  unfolding filled
  filled_same zero e = refl
  filled_same (suc n) e = λ j. set (filled_same n (λ k h. e k (omega arith)) j) n (e n (omega arith) j)

  -- where f and f' differ at b alone, a store there makes one of the other
  pub filled_set : (n b : ℕ) → b < n → ((k : ℕ) → (k ≡ b → ⊥) → f k ≡ f' k) → set (filled f n l) b (f' b) ≡ filled f' n l
  unfolding filled
  filled_set zero b h e = absurd (omega arith)
  filled_set (suc n) b h e =
      by_test (eqb b n)
      (λ q. let z = eqb-true b n q in
      rw z (set-set (filled f n l) n (f n) (f' n) ∙ ap (λ (m : List A). set m n (f' n)) (filled_same n (λ k i. e k (λ y. omega arith)))))
      (λ q. let z = eqb-false b n q in
      set_comm (filled f n l) n b (f n) (f' b) (λ y. z (sym y))
      ∙ (λ j. set (filled_set n b (omega arith) e j) n (e n (λ y. z (sym y)) j)))
