-- Where a decision may reach. Assumes nothing.
use mathlib.Core.Path.{◌≡◌, sym, ap, subst}
use mathlib.Core.Bool.{Bool, true, false, not}
use mathlib.Core.List.{List}
use Prim.Native.Nat.{ℕ, ◌+◌, ◌*◌, ◌^◌, ◌≤◌, ◌<◌}
use native.Mathlib.Omega.{arith}
use lib.Dec.{ltb, leb, eqb}
use lib.Pow.{pow_mono}
use borrow.Author.Tests.{ltb-false, leb-false, eqb-false}
use Rattle.laws.proofs.Choices.{by_cond, by_test}
use Rattle.event.specs.declared.Head.{Head}
use Rattle.event.specs.declared.Setup.{Setup}
use Rattle.event.specs.declared.Gateway.{Gateway}
use Rattle.event.specs.Decision.{Decision, Refused}
use Rattle.event.specs.Gateways.{closed, Window}
use Rattle.event.specs.Groups.{no_group, waits_of, own_group, whole_with}
use Rattle.event.specs.Outcomes.{ends, bypassed, malformed, ruled_of, decided_of, decision_of, outcome_of}
use Rattle.event.specs.Within.{Within}
use Rattle.event.proofs.Formed.{formed_kind, formed_sender, forward_code, open_code, update_barrier}
use Rattle.event.proofs.Rules.{left_over, by_kind}

pub closed_window : Window closed
closed_window = record { code = omega arith; fits = omega arith }

module _ (h : Head) (s : Setup) (g : Gateway) (waits : List Bool) where
  abbrev P : Decision → Type 0
  P = Within s

  refused : (n : ℕ) → 31 ≤ n → n ≤ 39 → Within s (Refused n)
  unfolding Within
  refused n l m = (l, m)

  open_within : malformed 0 h s.threads ≡ false → P (ruled_of 0 h s g waits)
  unfolding ruled_of Within
  open_within f =
      by_cond P (bypassed s) _ _ (λ _. (omega arith, omega arith)) λ _.
      by_test (ends h)
      (λ e. simp e (formed_sender 0 h s.threads f, closed_window))
      (λ e. simp e (by_cond P (ltb 128 (h.place + 2 ^ h.code)) _ _ (λ _. (omega arith, omega arith)) λ q.
      (formed_sender 0 h s.threads f, record { code = open_code h s.threads f (eqb-false _ _ e); fits = ltb-false 128 (h.place + 2 ^ h.code) q })))

  close_within : malformed 1 h s.threads ≡ false → P (ruled_of 1 h s g waits)
  unfolding ruled_of Within
  close_within f = by_cond P (bypassed s) _ _ (λ _. (omega arith, omega arith)) λ _. (formed_sender 1 h s.threads f, closed_window)

  forward_within : Window g → malformed 2 h s.threads ≡ false → P (ruled_of 2 h s g waits)
  unfolding ruled_of Within
  forward_within v f =
      by_cond P (leb s.threads h.target) _ _ (λ _. (omega arith, omega arith)) λ r.
      let to : h.target < s.threads = leb-false s.threads h.target r in
      let few : 2 ^ h.code ≤ 32 = pow_mono {i = h.code} {j = 5} (forward_code h s.threads f) in
      by_test (bypassed s)
      (λ e. simp e (by_cond P (ltb 4096 (h.place + 2 ^ h.code)) _ _ (λ _. (omega arith, omega arith)) λ q.
      let b = ltb-false 4096 (h.place + 2 ^ h.code) q in
      (to, few, record { from = omega arith; to = omega arith })))
      (λ e. simp e (by_cond P (eqb g.live 0) _ _ (λ _. (omega arith, omega arith)) λ _.
      by_cond P (not (eqb h.key g.key)) _ _ (λ _. (omega arith, omega arith)) λ _.
      by_cond P (ltb (32 * 2 ^ g.size) (h.place + 2 ^ h.code)) _ _ (λ _. (omega arith, omega arith)) λ q.
      let b = ltb-false (32 * 2 ^ g.size) (h.place + 2 ^ h.code) q in
      (to, few, record { from = omega arith; to = omega (arith, v.fits) })))

  barrier_within : malformed 4 h s.threads ≡ false → P (ruled_of 4 h s g waits)
  unfolding ruled_of Within
  barrier_within f =
      by_cond P (eqb (own_group h s) no_group) _ _ (λ _. (omega arith, omega arith)) λ _.
      by_cond P (waits_of waits h.sender) _ _ (λ _. (omega arith, omega arith)) λ _.
      by_cond P (whole_with h s waits) _ _ (λ _. tt) λ _. formed_sender 4 h s.threads f

  update_within : malformed 5 h s.threads ≡ false → P (ruled_of 5 h s g waits)
  unfolding ruled_of Within
  update_within f = omega (arith, update_barrier h s.threads f)

  -- an event's kind is one of those that a rule has
  abbrev OfKind : ℕ → Type 0
  OfKind k = malformed k h s.threads ≡ false → P (ruled_of k h s g waits)

  ruled_within : Window g → (k : ℕ) → OfKind k
  ruled_within v k =
      by_kind OfKind open_within close_within (forward_within v) barrier_within update_within k
      (λ n f. subst P (left_over k h s g waits (formed_kind k h s.threads f) n) (refused 32 (omega arith) (omega arith)))

  -- the decision, by whether the event is malformed
  pub decided_31 : malformed h.kind h s.threads ≡ true → decision_of h s g waits ≡ Refused 31
  unfolding decision_of decided_of
  decided_31 f = simp f

  pub decided_formed : malformed h.kind h s.threads ≡ false → decision_of h s g waits ≡ ruled_of h.kind h s g waits
  unfolding decision_of decided_of ruled_of
  decided_formed f = simp f

  pub decision_within : Window g → P (decision_of h s g waits)
  decision_within v =
      by_test (malformed h.kind h s.threads)
      (λ f. subst P (sym (decided_31 f)) (refused 31 (omega arith) (omega arith)))
      (λ f. subst P (sym (decided_formed f)) (ruled_within v h.kind f))

  -- an event whose outcome is not 31 is not malformed
  pub formed_of : (outcome_of (decision_of h s g waits) ≡ 31 → ⊥) → malformed h.kind h s.threads ≡ false
  unfolding outcome_of
  formed_of n = by_test (malformed h.kind h s.threads) (λ f. absurd (n (ap outcome_of (decided_31 f)))) (λ f. f)
