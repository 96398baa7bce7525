-- Counts: who gets one N0 by a release, and a forward's notification. Assumes nothing.
use mathlib.Core.Path.{◌≡◌, refl, ◌∙◌}
use mathlib.Core.Bool.{Bool, true, false, cond}
use mathlib.Core.List.{List}
use Prim.Native.Nat.{ℕ, zero, suc, ◌+◌, ◌*◌, ◌≤◌}
use native.Mathlib.Omega.{arith}
use lib.Dec.{eqb}
use lib.ListN.{length, get_or, length-set}
use lib.Seq.{get_or-set_other}
use borrow.Author.Tests.{ne_eqb, eqb-true}
use Rattle.laws.proofs.Choices.{by_test}
use Rattle.event.specs.Groups.{group_of, over_members}
use Rattle.effects.specs.Effects.{one_more, notified, group_notified}

-- ---- one more at a place, or none

pub as_long : (b : Bool) (cs : List ℕ) (k : ℕ) → length (cond b (one_more cs k) cs) ≡ length cs
as_long true cs k = length-set cs k _
as_long false cs k = refl

pub others_kept : (b : Bool) (cs : List ℕ) (k j : ℕ) → (j ≡ k → ⊥) → get_or (cond b (one_more cs k) cs) j 0 ≡ get_or cs j 0
others_kept true cs k j h = get_or-set_other cs k j _ 0 h
others_kept false cs k j h = refl

-- ---- a release

module _ (groups : List ℕ) (g : ℕ) (cs : List ℕ) where
  pub group_notified_long : (n : ℕ) → length (group_notified n groups g cs) ≡ length cs
  unfolding over_members
  group_notified_long zero = refl
  group_notified_long (suc n) = as_long (eqb (group_of groups n) g) (group_notified n groups g cs) (2 * n) ∙ group_notified_long n

  -- who has not had its turn has what it had
  pub group_notified_later : (n k : ℕ) → 2 * n ≤ k → get_or (group_notified n groups g cs) k 0 ≡ get_or cs k 0
  unfolding over_members
  group_notified_later zero k h = refl
  group_notified_later (suc n) k h = others_kept (eqb (group_of groups n) g) (group_notified n groups g cs) (2 * n) k (λ q. omega arith) ∙ group_notified_later n k (omega arith)

-- ---- a forward's notification

-- one step adds to N0, the next to N2
pub notified_twice : (r m : ℕ) (cs c₁ c₂ : List ℕ) → c₁ ≡ cond (eqb m 1) (one_more cs (2 * r)) cs → c₂ ≡ cond (eqb m 2) (one_more c₁ (2 * r + 1)) c₁ → c₂ ≡ notified r m cs
unfolding notified
notified_twice r m cs c₁ c₂ first second =
    by_test (eqb m 1)
    (λ q. let z = eqb-true m 1 q in simp q (simp (ne_eqb m 2 (λ e. omega arith)) at second ∙ simp q at first))
    (λ q. let z : c₁ ≡ cs = simp q at first in simp q (rw z at second))
