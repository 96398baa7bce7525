-- A recording whose number is 0 or above 14 is refused by none of rows 11 to 14. Assumes nothing.
use mathlib.Core.Path.{◌≡◌, refl, sym, ◌∙◌}
use mathlib.Core.Logic.{◌⊎◌, ⊎_elim}
use mathlib.Core.List.{List, [], ◌∷◌, ◌++◌}
use Prim.Native.Nat.{ℕ, ◌≤◌, ◌<◌}
use native.Mathlib.Omega.{arith}
use lib.Dec.{eqb}
use borrow.Author.Tests.{eqb-true, eqb-false}
use Rattle.laws.specs.Rows.{Row}
use Rattle.laws.proofs.Choices.{by_test}
use Rattle.laws.proofs.Rows.{by_rows, first_decides}
use Rattle.recording.specs.Recording.{header_rows, length_row, length_rows, form_refusal_of, refusal_of}

abbrev after : List (Row ℕ) → List (Row ℕ)
after [] = []
after (r ∷ rs) = rs

module _ (rec : List ℕ) (registers counts outcomes : ℕ) where
  abbrev form : List (Row ℕ)
  form = header_rows rec ++ length_row rec ∷ []

  -- rows 15 and 16
  abbrev rest : List (Row ℕ)
  rest = after (length_rows rec registers counts outcomes)

  abbrev most : ℕ → Type 0
  most n = n ≤ 14

  up_to_14 : form_refusal_of rec ≤ 14
  unfolding form_refusal_of
  up_to_14 =
      by_rows most 0 form (omega arith)
      (λ _. omega arith, (λ _. omega arith, (λ _. omega arith, (λ _. omega arith, (λ _. omega arith, (λ _. omega arith, (λ _. omega arith, (λ _. omega arith, tt))))))))

  -- a refusal of these rows is the recording's
  form_first : (form_refusal_of rec ≡ 0 → ⊥) → refusal_of rec registers counts outcomes ≡ form_refusal_of rec
  unfolding form_refusal_of refusal_of
  form_first n = first_decides (λ x. x) 0 form rest refl n

  pub form_passes : (refusal_of rec registers counts outcomes ≡ 0) ⊎ (14 < refusal_of rec registers counts outcomes) → form_refusal_of rec ≡ 0
  form_passes o =
      by_test (eqb (form_refusal_of rec) 0) (λ q. eqb-true _ 0 q)
      (λ q. let n = eqb-false (form_refusal_of rec) 0 q in
      let e = form_first n in
      ⊎_elim (λ z. absurd (n (sym e ∙ z))) (λ l. absurd (omega (arith, up_to_14))) o)
