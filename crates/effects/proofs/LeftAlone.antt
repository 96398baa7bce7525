-- What an event of a kind leaves as it was. Assumes nothing.
use mathlib.Core.Path.{◌≡◌, refl, sym, ap, subst, ◌∙◌}
use mathlib.Core.Bool.{Bool}
use mathlib.Core.List.{List}
use Prim.Native.Nat.{ℕ, ◌≤◌, ◌<◌}
use native.Mathlib.Omega.{arith}
use lib.Dec.{eqb}
use lib.ListN.{length, set}
use borrow.Author.Tests.{eqb-true, eqb-false}
use Rattle.laws.proofs.Choices.{by_test}
use Rattle.event.specs.declared.Head.{Head}
use Rattle.event.specs.declared.Setup.{Setup}
use Rattle.event.specs.declared.Gateway.{Gateway}
use Rattle.event.specs.Decision.{Decision, Release}
use Rattle.event.specs.Groups.{Grouped}
use Rattle.event.specs.Outcomes.{gateway_left, decision_of, outcome_of}
use Rattle.event.proofs.Decisions.{by_open_or_close, by_forward, by_wait, by_release, by_update}
use Rattle.event.proofs.Formed.{formed_sender}
use Rattle.event.proofs.Reach.{formed_of}
use Rattle.event.proofs.Sources.{Source, decision_source}
use Rattle.event.proofs.Passed.{passed_as}
use Rattle.effects.specs.Effects.{gateways_after, bytes_after, waits_after, counts_after, forwarded}
use Rattle.effects.specs.Releases.{releases_after, counts_in}
use Rattle.effects.proofs.ReleaseLaws.{counted_releases}

module _ (h : Head) (s : Setup) (g : Gateway) (ws : List Bool) where
  abbrev d : Decision
  d = decision_of h s g ws

  abbrev k : ℕ
  k = h.kind

  -- what its decision says of an event
  from : {e : Decision} → d ≡ e → Source k h s g ws e
  from q = subst (Source k h s g ws) q (decision_source h s g ws)

  pub gateways_kept : 2 ≤ k → (gs : List Gateway) → gs ≡ gateways_after d gs
  unfolding Source gateways_after
  gateways_kept l gs = by_open_or_close (λ (x : List Gateway). gs ≡ x) d _ gs (λ t y e. absurd (omega (arith, from e))) refl

  pub registers_kept : (k ≡ 2 → ⊥) → (ev rs : List ℕ) → rs ≡ forwarded d ev rs
  unfolding Source forwarded
  registers_kept n ev rs = by_forward (λ (x : List ℕ). rs ≡ x) d _ rs (λ r a c m e. absurd (n (from e).kind)) refl

  pub counts_kept : (k ≡ 2 → ⊥) → (k ≡ 4 → ⊥) → (cs : List ℕ) → cs ≡ counts_after d s cs
  unfolding Source counts_after
  counts_kept n m cs =
      by_forward (λ (x : List ℕ). cs ≡ x) d _ _ (λ r a c y e. absurd (n (from e).kind))
      (by_release (λ (x : List ℕ). cs ≡ x) d _ cs (λ b e. absurd (m (from e).1.kind)) refl)

  pub releases_kept : (k ≡ 4 → ⊥) → (ns : List ℕ) → ns ≡ releases_after d ns
  unfolding Source releases_after
  releases_kept n ns = by_release (λ (x : List ℕ). ns ≡ x) d _ ns (λ b e. absurd (n (from e).1.kind)) refl

  -- a release is of a barrier
  below : Grouped s → (b : ℕ) → d ≡ Release b → b < 16
  unfolding Source outcome_of
  below grouped b e =
      let q = from e in
      let z : outcome_of d ≡ 0 = ap outcome_of e in
      omega (arith, q.0, grouped.known h.sender (formed_sender k h s.threads (formed_of h s g ws (λ y. omega arith))) q.1.group)

  -- what is no forward adds by its barrier's releases what it adds to the counts
  pub releases_counted : (k ≡ 2 → ⊥) → Grouped s → (ns cs : List ℕ) → length ns ≡ 16 → counts_in s (releases_after d ns) cs ≡ counts_after d s (counts_in s ns cs)
  unfolding Source
  releases_counted n grouped ns cs long =
      counted_releases s ns cs d (λ r a c m e. n (from e).kind) (λ b e. omega (arith, below grouped b e))

  pub waits_kept : (k ≡ 4 → ⊥) → (waits : List Bool) → waits ≡ waits_after d s waits
  unfolding Source waits_after
  waits_kept n waits =
      by_wait (λ (x : List Bool). waits ≡ x) d _ _ (λ t e. absurd (n (from e).1.kind))
      (by_release (λ (x : List Bool). waits ≡ x) d _ waits (λ b e. absurd (n (from e).1.kind)) refl)

  pub bytes_kept : (k ≡ 5 → ⊥) → (bs : List ℕ) → bs ≡ bytes_after d bs
  unfolding Source bytes_after
  bytes_kept n bs = by_update (λ (x : List ℕ). bs ≡ x) d _ bs (λ b v e. absurd (n (from e))) refl

  -- an open or a close that passes sets its sender's gateway
  pub gateway_set : k < 2 → outcome_of d ≡ 0 → (gs : List Gateway) → set gs h.sender (gateway_left k h) ≡ gateways_after d gs
  unfolding gateways_after
  gateway_set l o gs =
      by_test (eqb k 0)
      (λ q. let z = eqb-true k 0 q in
      ap (λ (m : ℕ). set gs h.sender (gateway_left m h)) z ∙ ap (λ (x : Decision). gateways_after x gs) (sym (passed_as h s g ws 0 z o)))
      (λ q. let z = eqb-false k 0 q in
      let one : k ≡ 1 = omega arith in
      ap (λ (m : ℕ). set gs h.sender (gateway_left m h)) one ∙ ap (λ (x : Decision). gateways_after x gs) (sym (passed_as h s g ws 1 one o)))

  -- whoever passes is a thread
  pub passed_sender : outcome_of d ≡ 0 → h.sender < s.threads
  passed_sender o = formed_sender k h s.threads (formed_of h s g ws (λ e. omega arith))
