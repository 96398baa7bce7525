-- The words of a record, one after another. Assumes nothing.
use mathlib.Core.Path.{◌≡◌, refl, sym, ap, ◌∙◌}
use Prim.Native.Nat.{ℕ, ◌+◌, ◌≤◌}
use native.Mathlib.Numerals.{add-one}
use native.Mathlib.Omega.{arith}
use mathlib.Core.List.{List}
use lib.ListN.{get_or}
use Rattle.words.specs.Dwords.{Buffer, put_in}
use Rattle.records.specs.Records.{slot, put_words}

module _ {E : Type 0} (stored : List E → ℕ → ℕ → List E) (r₀ : Buffer E) (i : ℕ) (w : List ℕ) (r : Buffer E) (f : ℕ) (e : r ≡ put_words (put_in stored) r₀ i w f) where
  pub words_again : (r' : Buffer E) (s : ℕ) → s ≡ slot i f → r' ≡ put_in stored r s (get_or w f 0) → r' ≡ put_words (put_in stored) r₀ i w (f + 1)
  unfolding put_words
  words_again r' s es q =
      q ∙ ap (λ (n : ℕ). put_in stored r n (get_or w f 0)) es ∙ ap (λ (x : Buffer E). put_in stored x (slot i f) (get_or w f 0)) e
      ∙ ap (put_words (put_in stored) r₀ i w) (sym (add-one f))

  pub words_done : f ≤ 16 → 16 ≤ f → r ≡ put_words (put_in stored) r₀ i w 16
  words_done p q = let h : f ≡ 16 = omega arith in e ∙ ap (put_words (put_in stored) r₀ i w) h

pub words_none : {E : Type 0} (stored : List E → ℕ → ℕ → List E) (r : Buffer E) (i : ℕ) (w : List ℕ) → r ≡ put_words (put_in stored) r i w 0
unfolding put_words
words_none stored r i w = refl

pub ruleset words_laws = (words_none, words_again, words_done)
