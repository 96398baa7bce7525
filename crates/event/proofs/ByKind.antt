-- The decision of an event by its kind, and what is no matter to it. Assumes nothing.
use mathlib.Core.Path.{◌≡◌, refl, sym, ap, subst, ◌∙◌}
use mathlib.Core.Bool.{Bool, true, false}
use mathlib.Core.List.{List}
use Prim.Native.Nat.{ℕ}
use native.Mathlib.Omega.{arith}
use lib.Dec.{eqb}
use borrow.Author.Tests.{ne_eqb}
use Rattle.laws.proofs.Choices.{by_test}
use Rattle.event.specs.declared.Head.{Head}
use Rattle.event.specs.declared.Setup.{Setup}
use Rattle.event.specs.declared.Gateway.{Gateway}
use Rattle.event.specs.Outcomes.{Unserved, counted_ack, malformed, decided_of, decision_of, outcome_of}
use Rattle.event.proofs.Formed.{formed_kind}
use Rattle.event.proofs.Rules.{left_over}
use Rattle.event.proofs.Reach.{decided_31, decided_formed}

module _ (h : Head) (s : Setup) where
  module _ (g : Gateway) (ws : List Bool) where
    pub outcome_31 : malformed h.kind h s.threads ≡ true → 31 ≡ outcome_of (decision_of h s g ws)
    unfolding outcome_of
    outcome_31 f = sym (ap outcome_of (decided_31 h s g ws f))

  -- who waits is no matter to a forward
  pub forward_same : (g : Gateway) (ws ws' : List Bool) → h.kind ≡ 2 → decision_of h s g ws ≡ decision_of h s g ws'
  unfolding decision_of decided_of
  forward_same g ws ws' e = subst (λ (k : ℕ). decided_of k h s g ws ≡ decided_of k h s g ws') (sym e) refl

  -- nor is either to what is neither a forward nor a barrier message
  pub other_same : (g g' : Gateway) (ws ws' : List Bool) → (h.kind ≡ 2 → ⊥) → (h.kind ≡ 4 → ⊥) → decision_of h s g ws ≡ decision_of h s g' ws'
  unfolding decision_of decided_of
  other_same g g' ws ws' n2 n4 = simp (ne_eqb h.kind 2 n2, ne_eqb h.kind 4 n4)

  -- no gateway is to what is no forward
  pub gate_same : (g g' : Gateway) (ws : List Bool) → (h.kind ≡ 2 → ⊥) → decision_of h s g ws ≡ decision_of h s g' ws
  unfolding decision_of decided_of
  gate_same g g' ws n = simp (ne_eqb h.kind 2 n)

  -- a kind that is not served is refused
  pub other_refused : (g : Gateway) (ws : List Bool) → Unserved h.kind → outcome_of (decision_of h s g ws) ≡ 0 → ⊥
  unfolding outcome_of
  other_refused g ws n o =
      by_test (malformed h.kind h s.threads)
      (λ f. omega (arith, outcome_31 g ws f))
      (λ f. omega (arith, ap outcome_of (left_over h.kind h s g ws (formed_kind h.kind h s.threads f) n ∙ sym (decided_formed h s g ws f))))

  -- and its acknowledgement does not count, nor an update's
  pub uncounted : (h.kind ≡ 0 → ⊥) → (h.kind ≡ 1 → ⊥) → (h.kind ≡ 2 → ⊥) → (h.kind ≡ 4 → ⊥) → counted_ack h.kind h ≡ false
  unfolding counted_ack
  uncounted n0 n1 n2 n4 =
      by_test (eqb h.ack 1)
      (λ a. simp (a, ne_eqb h.kind 0 n0, ne_eqb h.kind 1 n1, ne_eqb h.kind 2 n2, ne_eqb h.kind 4 n4))
      (λ a. simp a)

-- an event of a kind that is not malformed
pub formed_as : (h : Head) (threads k : ℕ) → h.kind ≡ k → malformed h.kind h threads ≡ false → malformed k h threads ≡ false
formed_as h threads k e f = subst (λ (m : ℕ). malformed m h threads ≡ false) e f
