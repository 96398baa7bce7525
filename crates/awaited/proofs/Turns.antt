-- A search for the first number that passes a test: its turns. Assumes nothing.
use mathlib.Core.Path.{◌≡◌, sym, subst, ◌∙◌}
use mathlib.Core.Bool.{Bool, true, false}
use mathlib.Core.Logic.{◌⊎◌, inl, inr}
use Prim.Native.Nat.{ℕ, ◌+◌, ◌-◌, ◌<◌, ◌≤◌, min, max}
use native.Mathlib.Nat.{eq-or-lt_of_le}
use native.Mathlib.Omega.{arith}
use lib.Dec.{ltb}
use borrow.Author.Tests.{ltb-true, ltb-false}
use Rattle.laws.specs.Find.{find_first, NoneBelow}
use Rattle.laws.proofs.Choices.{by_test}
use Rattle.laws.proofs.Find.{found, none}
use Rattle.awaited.specs.First.{Tells, AllFail, OnePasses, Passed, First}

module _ (post : ℕ → Bool → Type 0) (a : ℕ) where
  pub fail_none : AllFail post a a
  fail_none i p q = absurd (omega arith)

  pub fail_next : (r : ℕ) → AllFail post a r → post r false → AllFail post a (r + 1)
  fail_next r h z i p q = go (eq-or-lt_of_le (let l : i ≤ r = omega arith in l))
    where
      go : (i ≡ r) ⊎ (i < r) → post i false
      go (inl e) = subst (λ (m : ℕ). post m false) (sym e) z
      go (inr l) = h i p l

module _ (post : ℕ → Bool → Type 0) (a b : ℕ) where
  pub passed_at : (r : ℕ) → a ≤ r → r ≤ b → AllFail post a r → Passed post a b r
  passed_at r p q h = record { after = p; within = q; none = h }

  pub first_found : (r : ℕ) → a ≤ r → r < b → AllFail post a r → post r true → First post a b r
  first_found r p q h t = record { passed = record { after = p; within = omega arith; none = h }; found = λ l. t }

  pub first_none : (r : ℕ) → b ≤ r → AllFail post a r → First post a b (max b a)
  first_none r q h =
      record {
        passed = record { after = omega arith; within = omega arith; none = λ i l m. h i l (omega arith) };
        found = λ l. absurd (omega arith);
      }

-- four of them at a time
pub four_fail : (post : ℕ → Bool → Type 0) (r : ℕ) → post r false → post (r + 1) false → post (r + 2) false → post (r + 3) false → AllFail post r (r + 4)
four_fail post r p q s t =
    let one = fail_next post r r (fail_none post r) p in
    let two = fail_next post r (r + 1) one q in
    let e : r + 1 + 1 ≡ r + 2 = omega arith in
    let three = fail_next post r (r + 2) (subst (AllFail post r) e two) s in
    let f : r + 2 + 1 ≡ r + 3 = omega arith in
    let four = fail_next post r (r + 3) (subst (AllFail post r) f three) t in
    let g : r + 3 + 1 ≡ r + 4 = omega arith in
    subst (AllFail post r) g four

pub one_passes : (post : ℕ → Bool → Type 0) (r i : ℕ) → r ≤ i → i < r + 4 → post i true → OnePasses post r (r + 4)
one_passes post r i p q t = record { at = i; after = p; before = q; passed = t }

pub fail_four : (post : ℕ → Bool → Type 0) (a b r : ℕ) → Passed post a b r → AllFail post r (r + 4) → 4 ≤ b - r → Passed post a b (r + 4)
fail_four post a b r h k l =
    record {
      after = omega (arith, h.after);
      within = omega (arith, h.within);
      none = λ i p q. by_test (ltb i r) (λ t. h.none i p (ltb-true i r t)) (λ t. k i (ltb-false i r t) q);
    }

-- a test whose answer is known
pub told : (post : ℕ → Bool → Type 0) (f : ℕ → Bool) (a b r : ℕ) → ((i : ℕ) → post i false → false ≡ f i) → Passed post a b r → Passed (Tells f) a b r
told post f a b r known h = record { after = h.after; within = h.within; none = λ i p q. known i (h.none i p q) }

-- what the first is, by a test whose answer is known and that fails below a
module _ (post : ℕ → Bool → Type 0) (f : ℕ → Bool) (a b r : ℕ) (known : (i : ℕ) (t : Bool) → post i t → t ≡ f i) (off : NoneBelow f a) (h : First post a b r) where
  pub first_off : NoneBelow f r
  first_off i q = by_test (ltb i a) (λ t. off i (ltb-true i a t)) (λ t. sym (known i false (h.passed.none i (ltb-false i a t) q)))

  pub first_is : min r b ≡ find_first b f
  first_is =
      by_test (ltb r b)
      (λ t. let l = ltb-true r b t in
      let m : min r b ≡ r = omega arith in
      m ∙ sym (found f b r l first_off (sym (known r true (h.found l)))))
      (λ t. let l = ltb-false r b t in
      let m : min r b ≡ b = omega arith in
      m ∙ sym (none f b r l first_off))

  pub first_exact : a ≤ b → r ≡ find_first b f
  first_exact q = let m : r ≡ min r b = omega (arith, h.passed.within) in m ∙ first_is

-- passed over, then further
pub passed_on : (post : ℕ → Bool → Type 0) (a b r s : ℕ) → Passed post a b r → Passed post r (max r b) s → Passed post a b s
passed_on post a b r s h k =
    record {
      after = omega (arith, h.after, k.after);
      within = omega (arith, h.within, k.within);
      none = λ i p q. by_test (ltb i r) (λ t. h.none i p (ltb-true i r t)) (λ t. k.none i (ltb-false i r t) q);
    }

pub ruleset turns = (fail_none, fail_next, first_found, first_none)

pub ruleset leaps = (fail_none, passed_at, fail_four)
