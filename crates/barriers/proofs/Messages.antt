-- What each kind that barriers are for leaves. Assumes nothing.
use mathlib.Core.Path.{◌≡◌, sym, ap, ◌∙◌}
use mathlib.Core.List.{List, []}
use Prim.Native.Nat.{ℕ, ◌≤◌}
use native.Mathlib.Omega.{arith}
use Rattle.event.specs.declared.Head.{Head}
use Rattle.event.specs.declared.Setup.{Setup}
use Rattle.event.specs.Decision.{Decision, Update}
use Rattle.event.specs.Gateways.{closed}
use Rattle.event.specs.Groups.{Grouped}
use Rattle.event.specs.Outcomes.{outcome_of}
use Rattle.event.specs.ByKind.{decision_alone}
use Rattle.event.proofs.Formed.{update_barrier}
use Rattle.event.proofs.Reach.{formed_of}
use Rattle.event.proofs.ByKind.{formed_as, other_same}
use Rattle.event.proofs.Passed.{passed_as}
use Rattle.effects.specs.Effects.{bytes_after, waits_after, with_ack}
use Rattle.effects.specs.Releases.{releases_after}
use Rattle.effects.proofs.LeftAlone.{bytes_kept, waits_kept, releases_kept}
use Rattle.barriers.specs.Barriers.{waiting_in, waits_in, message_decision, Masked, MessageLeft}
use Rattle.barriers.proofs.Waits.{waiting_long, after_message}

-- an update that passes
module _ (h : Head) (s : Setup) (k : h.kind ≡ 5) (o : outcome_of (decision_alone h s) ≡ 0) where
  pub updated : decision_alone h s ≡ Update h.target h.code
  updated = passed_as h s closed [] 5 k o

  pub update_below : h.target ≤ 15
  update_below = update_barrier h s.threads (formed_as h s.threads 5 k (formed_of h s closed [] (λ e. omega arith)))

module _ (h : Head) (s : Setup) (members m bs rs ns : List ℕ) (grouped : Grouped s) (kept : Masked s members m) where
  abbrev d : Decision
  d = message_decision h s m

  -- a barrier message sets no byte
  pub arrival_left : h.kind ≡ 4 → {o : ℕ} {m' rs' ns' : List ℕ} → (o ≡ outcome_of d) × (m' ≡ waiting_in s (waits_after d s (waits_in s m))) × (ns' ≡ releases_after d ns)
      → rs' ≡ with_ack h o rs → MessageLeft h s o m bs rs ns m' bs rs' ns'
  arrival_left k e a =
      let w = ap (waits_in s) e.1 ∙ after_message h s m grouped (waiting_long s kept) in
      record {
        its_outcome = e.0;
        its_waits = w;
        its_masks = e.1 ∙ ap (waiting_in s) (sym w);
        its_bytes = bytes_kept h s closed (waits_in s m) (λ z. omega arith) bs;
        its_registers = a;
        its_releases = e.2;
      }

  -- any other changes neither who waits nor a barrier's releases
  pub other_left : (h.kind ≡ 2 → ⊥) → (h.kind ≡ 4 → ⊥) → {o : ℕ} {bs' : List ℕ} → o ≡ outcome_of (decision_alone h s) → bs' ≡ bytes_after (decision_alone h s) bs
      → rs ≡ with_ack h o rs → MessageLeft h s o m bs rs ns m bs' rs ns
  other_left n2 n4 eo eb a =
      let e : decision_alone h s ≡ d = other_same h s closed closed [] (waits_in s m) n2 n4 in
      record {
        its_outcome = eo ∙ ap outcome_of e;
        its_waits = waits_kept h s closed (waits_in s m) n4 (waits_in s m);
        its_masks = kept.own_waiting;
        its_bytes = eb ∙ ap (λ (x : Decision). bytes_after x bs) e;
        its_registers = a;
        its_releases = releases_kept h s closed (waits_in s m) n4 ns;
      }
