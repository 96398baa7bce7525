-- A group of which one does not wait does not wait whole. Assumes nothing.
use mathlib.Core.Path.{◌≡◌, refl, subst}
use mathlib.Core.Bool.{Bool, true, false, ◌&&◌}
use mathlib.Core.List.{List}
use Prim.Native.Nat.{ℕ, zero, suc, ◌<◌}
use native.Mathlib.Omega.{arith}
use lib.Dec.{eqb}
use borrow.Author.Tests.{eq-eqb, eqb-true, eqb-false}
use Rattle.laws.proofs.Choices.{by_cond, by_test}
use Rattle.event.specs.Groups.{group_of, waits_of, over_members, all_wait}

module _ (groups : List ℕ) (g : ℕ) (waits : List Bool) where
  -- a member that does not wait
  pub one_missing : (n i : ℕ) → i < n → group_of groups i ≡ g → waits_of waits i ≡ false → all_wait n groups g waits ≡ false
  unfolding over_members
  one_missing zero i h e f = absurd (omega arith)
  one_missing (suc n) i h e f =
      by_test (eqb i n)
      (λ q. let z = eqb-true i n q in
      let e' : group_of groups n ≡ g = subst (λ (k : ℕ). group_of groups k ≡ g) z e in
      let f' : waits_of waits n ≡ false = subst (λ (k : ℕ). waits_of waits k ≡ false) z f in
      simp (eq-eqb _ _ e', f'))
      (λ q. let z = eqb-false i n q in
      let ih = one_missing n i (omega arith) e f in
      by_cond (λ (b : Bool). b ≡ false) (eqb (group_of groups n) g) _ _ (λ _. rw ih (no_and (waits_of waits n))) (λ _. ih))
    where
      no_and : (b : Bool) → b && false ≡ false
      no_and true = refl
      no_and false = refl
