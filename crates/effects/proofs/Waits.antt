-- Who waits after a decision: a release frees its group and nobody else, and whoever waits is a thread that has a group. Assumes nothing.
use mathlib.Core.Path.{◌≡◌, refl, sym, ◌∙◌, subst}
use mathlib.Core.Bool.{Bool, true, false}
use mathlib.Core.List.{List, [], ◌∷◌}
use Prim.Native.Nat.{ℕ, zero, suc, ◌<◌}
use native.Mathlib.Omega.{arith}
use lib.Dec.{eqb}
use lib.ListN.{length, get_or, set, length-set}
use lib.Seq.{get_or-set_other}
use borrow.Author.Tests.{eqb-true, eqb-false}
use Rattle.laws.proofs.Choices.{by_cond, by_test, not_both}
use Rattle.event.specs.declared.Head.{Head}
use Rattle.event.specs.declared.Setup.{Setup}
use Rattle.event.specs.declared.Gateway.{Gateway}
use Rattle.event.specs.Decision.{Decision}
use Rattle.event.specs.Groups.{no_group, group_of, waits_of, over_members}
use Rattle.event.specs.Within.{Within}
use Rattle.event.proofs.Decisions.{by_wait, by_release}
use Rattle.event.proofs.Sources.{Source}
use Rattle.effects.specs.Effects.{released, waits_after}

-- ---- who waits, after a store and after a release

cleared_stays : (l : List Bool) (n k : ℕ) → get_or l k false ≡ false → get_or (set l n false) k false ≡ false
cleared_stays [] n k h = h
cleared_stays (x ∷ xs) zero zero h = refl
cleared_stays (x ∷ xs) zero (suc k) h = h
cleared_stays (x ∷ xs) (suc n) zero h = h
cleared_stays (x ∷ xs) (suc n) (suc k) h = cleared_stays xs n k h

cleared : (l : List Bool) (n : ℕ) → get_or (set l n false) n false ≡ false
cleared [] n = refl
cleared (x ∷ xs) zero = refl
cleared (x ∷ xs) (suc n) = cleared xs n

set_before : (l : List Bool) (n k : ℕ) → get_or (set l n false) k false ≡ true → get_or l k false ≡ true
set_before l n k h = by_test (get_or l k false) (λ e. e) (λ e. absurd (not_both _ h (cleared_stays l n k e)))

module _ (groups : List ℕ) (g : ℕ) (waits : List Bool) where
  pub released_at : (n t : ℕ) → t < n → group_of groups t ≡ g → waits_of (released n groups g waits) t ≡ false
  unfolding over_members
  released_at zero t h e = absurd (omega arith)
  released_at (suc n) t h e =
      by_cond (λ (l : List Bool). waits_of l t ≡ false) (eqb (group_of groups n) g) _ _
      (λ _. by_test (eqb t n)
      (λ q. subst (λ (m : ℕ). get_or (set (released n groups g waits) m false) t false ≡ false) (eqb-true t n q) (cleared (released n groups g waits) t))
      (λ q. let z = eqb-false t n q in cleared_stays (released n groups g waits) n t (released_at n t (omega arith) e)))
      (λ m. by_test (eqb t n)
      (λ q. absurd (eqb-false (group_of groups n) g m (subst (λ (j : ℕ). group_of groups j ≡ g) (eqb-true t n q) e)))
      (λ q. let z = eqb-false t n q in released_at n t (omega arith) e))

  pub released_other : (n t : ℕ) → (group_of groups t ≡ g → ⊥) → waits_of (released n groups g waits) t ≡ waits_of waits t
  unfolding over_members
  released_other zero t h = refl
  released_other (suc n) t h =
      by_cond (λ (l : List Bool). waits_of l t ≡ waits_of waits t) (eqb (group_of groups n) g) _ _
      (λ e. get_or-set_other (released n groups g waits) n t false false (λ q. h (subst (λ (j : ℕ). group_of groups j ≡ g) (sym q) (eqb-true (group_of groups n) g e))) ∙ released_other n t h)
      (λ _. released_other n t h)

  pub released_before : (n t : ℕ) → waits_of (released n groups g waits) t ≡ true → waits_of waits t ≡ true
  unfolding over_members
  released_before zero t h = h
  released_before (suc n) t h =
      by_cond (λ (l : List Bool). waits_of l t ≡ true → waits_of waits t ≡ true) (eqb (group_of groups n) g) _ _
      (λ _ q. released_before n t (set_before (released n groups g waits) n t q)) (λ _ q. released_before n t q) h

-- ---- as many threads as at first

released_long : (groups : List ℕ) (g : ℕ) (ws : List Bool) (n : ℕ) → length (released n groups g ws) ≡ length ws
unfolding over_members
released_long groups g ws zero = refl
released_long groups g ws (suc n) =
    by_cond (λ (l : List Bool). length l ≡ length ws) (eqb (group_of groups n) g) _ _ (λ _. length-set (released n groups g ws) n false ∙ released_long groups g ws n) (λ _. released_long groups g ws n)

pub waits_long : (s : Setup) (d : Decision) (ws : List Bool) → length (waits_after d s ws) ≡ length ws
unfolding waits_after
waits_long s d ws =
    by_wait (λ (l : List Bool). length l ≡ length ws) d _ _ (λ t _. length-set ws t true)
    (by_release (λ (l : List Bool). length l ≡ length ws) d _ ws (λ g _. released_long s.groups g ws s.threads) refl)

-- ---- whoever waits is a thread, and has a group

module _ (s : Setup) where
  abbrev pub Threads : List Bool → Type 0
  Threads ws = (t : ℕ) → waits_of ws t ≡ true → t < s.threads

  abbrev pub Members : List Bool → Type 0
  Members ws = (t : ℕ) → waits_of ws t ≡ true → group_of s.groups t ≡ no_group → ⊥

  module _ (waits : List Bool) (h : Head) (g : Gateway) where
    pub threads_after : (d : Decision) → Within s d → Threads waits → Threads (waits_after d s waits)
    unfolding Within waits_after
    threads_after d w m =
        by_wait Threads d _ _
        (λ t q i e. by_test (eqb i t)
        (λ b. rw (eqb-true i t b) (subst (Within s) q w))
        (λ b. m i (sym (get_or-set_other waits t i true false (eqb-false i t b)) ∙ e)))
        (by_release Threads d _ waits (λ g _ i e. m i (released_before s.groups g waits s.threads i e)) m)

    pub members_after : (d : Decision) → Source h.kind h s g waits d → Members waits → Members (waits_after d s waits)
    unfolding Source waits_after
    members_after d z m =
        by_wait Members d _ _
        (λ t q i e f. let y = subst (Source h.kind h s g waits) q z in
        by_test (eqb i t)
        (λ b. y.1.group (subst (λ (k : ℕ). group_of s.groups k ≡ no_group) (eqb-true i t b ∙ y.0) f))
        (λ b. m i (sym (get_or-set_other waits t i true false (eqb-false i t b)) ∙ e) f))
        (by_release Members d _ waits (λ b _ i e f. m i (released_before s.groups b waits s.threads i e) f) m)
