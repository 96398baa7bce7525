-- Which events a decision comes from. Assumes nothing.
use mathlib.Core.Path.{◌≡◌, refl, sym, subst}
use mathlib.Core.Bool.{Bool, true, false, not}
use mathlib.Core.List.{List}
use Prim.Native.Nat.{ℕ, ◌+◌, ◌*◌, ◌^◌, ◌≤◌}
use native.Mathlib.Omega.{arith}
use lib.Dec.{ltb, leb, eqb}
use borrow.Author.Tests.{eqb-false}
use Rattle.laws.proofs.Choices.{by_cond, by_test}
use Rattle.event.specs.declared.Head.{Head}
use Rattle.event.specs.declared.Setup.{Setup}
use Rattle.event.specs.declared.Gateway.{Gateway}
use Rattle.event.specs.Decision.{Decision, Refused, OpenOrClose, Forward, Wait, Release, Update}
use Rattle.event.specs.Groups.{no_group, waits_of, own_group, whole_with}
use Rattle.event.specs.Outcomes.{ends, bypassed, forward_start, malformed, ruled_of, decision_of}
use Rattle.event.proofs.Formed.{formed_kind}
use Rattle.event.proofs.Rules.{left_over, by_kind}
use Rattle.event.proofs.Reach.{decided_31, decided_formed}

-- what an event of kind k with this head must be, for a decision to be its own
pub record Forwards (k : ℕ) (h : Head) (s : Setup) (g : Gateway) (r a n m : ℕ) : Type 0 where
  pub kind : k ≡ 2
  pub to : r ≡ h.target
  pub at : a ≡ forward_start h s g
  pub count : n ≡ 2 ^ h.code
  pub notify : m ≡ h.notify

pub record Arrives (k : ℕ) (h : Head) (s : Setup) (waits : List Bool) (whole : Bool) : Type 0 where
  pub kind : k ≡ 4
  pub group : own_group h s ≡ no_group → ⊥
  pub new : waits_of waits h.sender ≡ false
  pub then : whole_with h s waits ≡ whole

unfoldable pub Source : ℕ → Head → Setup → Gateway → List Bool → Decision → Type 0
Source k h s g waits (Refused n) = Unit {0}
Source k h s g waits (OpenOrClose t g') = k ≤ 1
Source k h s g waits (Forward r a n m) = Forwards k h s g r a n m
Source k h s g waits (Wait t) = (t ≡ h.sender) × Arrives k h s waits false
Source k h s g waits (Release b) = (b ≡ own_group h s) × Arrives k h s waits true
Source k h s g waits (Update b v) = k ≡ 5

module _ (h : Head) (s : Setup) (g : Gateway) (waits : List Bool) where
  abbrev OfKind : ℕ → Type 0
  OfKind k = Source k h s g waits (ruled_of k h s g waits)

  open_source : OfKind 0
  unfolding ruled_of Source
  open_source =
      by_cond (Source 0 h s g waits) (bypassed s) _ _ (λ _. tt) λ _.
      by_test (ends h)
      (λ e. simp e (omega arith))
      (λ e. simp e (by_cond (Source 0 h s g waits) (ltb 128 (h.place + 2 ^ h.code)) _ _ (λ _. tt) λ _. omega arith))

  close_source : OfKind 1
  unfolding ruled_of Source
  close_source = by_cond (Source 1 h s g waits) (bypassed s) _ _ (λ _. tt) λ _. omega arith

  forward_source : OfKind 2
  unfolding ruled_of Source
  forward_source =
      by_cond (Source 2 h s g waits) (leb s.threads h.target) _ _ (λ _. tt) λ _.
      by_test (bypassed s)
      (λ e. simp e (by_cond (Source 2 h s g waits) (ltb 4096 (h.place + 2 ^ h.code)) _ _ (λ _. tt) λ _.
      record { kind = refl; to = refl; at = simp e; count = refl; notify = refl }))
      (λ e. simp e (by_cond (Source 2 h s g waits) (eqb g.live 0) _ _ (λ _. tt) λ _.
      by_cond (Source 2 h s g waits) (not (eqb h.key g.key)) _ _ (λ _. tt) λ _.
      by_cond (Source 2 h s g waits) (ltb (32 * 2 ^ g.size) (h.place + 2 ^ h.code)) _ _ (λ _. tt) λ _.
      record { kind = refl; to = refl; at = simp e; count = refl; notify = refl }))

  barrier_source : OfKind 4
  unfolding ruled_of Source
  barrier_source =
      by_cond (Source 4 h s g waits) (eqb (own_group h s) no_group) _ _ (λ _. tt) λ n.
      by_cond (Source 4 h s g waits) (waits_of waits h.sender) _ _ (λ _. tt) λ w.
      by_cond (Source 4 h s g waits) (whole_with h s waits) _ _
      (λ e. (refl, record { kind = refl; group = eqb-false (own_group h s) no_group n; new = w; then = e }))
      (λ e. (refl, record { kind = refl; group = eqb-false (own_group h s) no_group n; new = w; then = e }))

  update_source : OfKind 5
  unfolding ruled_of Source
  update_source = refl

  refused : (k n : ℕ) → Source k h s g waits (Refused n)
  unfolding Source
  refused k n = tt

  ruled_source : (k : ℕ) → k ≤ 6 → OfKind k
  ruled_source k most =
      by_kind OfKind open_source close_source forward_source barrier_source update_source k
      (λ n. subst (Source k h s g waits) (left_over k h s g waits most n) (refused k 32))

  pub decision_source : Source h.kind h s g waits (decision_of h s g waits)
  decision_source =
      by_test (malformed h.kind h s.threads)
      (λ f. subst (Source h.kind h s g waits) (sym (decided_31 h s g waits f)) (refused h.kind 31))
      (λ f. subst (Source h.kind h s g waits) (sym (decided_formed h s g waits f)) (ruled_source h.kind (formed_kind h.kind h s.threads f)))
