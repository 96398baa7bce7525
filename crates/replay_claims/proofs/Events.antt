-- What one event does by its outcome: refused, it changes nothing but its outcome byte and its acknowledgement; an accepted forward writes its own
-- bytes and no other. Assumes nothing.
use mathlib.Core.Path.{◌≡◌, refl, sym, ap, subst, ◌∙◌}
use mathlib.Core.List.{List}
use Prim.Native.Nat.{ℕ, ◌*◌, ◌^◌}
use native.Mathlib.Omega.{arith}
use lib.ListN.{length, get_or}
use Rattle.event.specs.declared.Head.{Head}
use Rattle.event.specs.declared.Setup.{Setup}
use Rattle.event.specs.Decision.{Decision}
use Rattle.event.specs.Head.{head_of}
use Rattle.event.specs.Gateways.{gateway_at, Window}
use Rattle.event.specs.Outcomes.{accepted, decision_of, outcome_of}
use Rattle.event.specs.Codes.{count_of}
use Rattle.event.specs.Within.{OwnBytes, Within}
use Rattle.event.proofs.Reach.{decision_within}
use Rattle.event.proofs.Passed.{passed_as}
use Rattle.effects.specs.Effects.{forwarded, Written, with_ack}
use Rattle.effects.proofs.Acks.{ack_elsewhere}
use Rattle.effects.proofs.Forwarded.{written}
use Rattle.effects.proofs.Refused.{same_gateways, same_bytes, same_waits, same_counts, same_registers}
use Rattle.gateway.specs.Replay.{State, state_after, World, decision_in, leaves, step_of}
use Rattle.replay_claims.specs.Claims.{Unchanged, forward_place}

-- ---- a refused event

same_state : (s : Setup) (w : State) (d : Decision) → (outcome_of d ≡ 0 → ⊥) → state_after d s w ≡ w
same_state s w d n = λ j. record { gateways = same_gateways d n w.gateways j; bytes = same_bytes d n w.bytes j; waits = same_waits d n s w.waits j }

pub refused_unchanged : (s : Setup) (ev : List ℕ) (i : ℕ) (w : World) → (outcome_of (decision_in s ev w.state) ≡ 0 → ⊥)
    → Unchanged s ev i (outcome_of (decision_in s ev w.state)) w
unfolding step_of
refused_unchanged s ev i w n =
    let d = decision_in s ev w.state in
    let r = ap (with_ack (head_of ev) (outcome_of d)) (same_registers d n ev w.registers) in
    record {
      state = same_state s w.state d n;
      counts = same_counts d n s w.counts;
      outcomes = refl;
      registers = r;
      elsewhere = λ p e. ap (λ (l : List ℕ). get_or l p 0) r ∙ ack_elsewhere (head_of ev) (outcome_of d) w.registers p e;
    }

-- ---- an accepted forward

-- what an accepted forward writes, before its acknowledgement: its own bytes of data, which are its recipient's
pub record ForwardWritten (s : Setup) (ev : List ℕ) (w : State) (rs rs' : List ℕ) : Type 0 where
  pub recipients : OwnBytes (head_of ev).target (forward_place s (head_of ev) w) (count_of (head_of ev).code)
  pub bytes : Written (forward_place s (head_of ev) w) (count_of (head_of ev).code) ev rs rs'

module _ (s : Setup) (ev : List ℕ) (w : State) (rs : List ℕ) (event : length ev ≡ 48) (own : length rs ≡ 4096 * s.threads) where
  abbrev h : Head
  h = head_of ev

  pub forward_written : Window (gateway_at w.gateways h.target) → h.kind ≡ 2 → outcome_of (decision_in s ev w) ≡ 0
      → ForwardWritten s ev w rs (forwarded (decision_in s ev w) ev rs)
  unfolding Within
  forward_written v k o =
      let g = gateway_at w.gateways h.target in
      let q = passed_as h s g w.waits 2 k o in
      let u = subst (Within s) q (decision_within h s g w.waits v) in
      subst (λ (d : Decision). ForwardWritten s ev w rs (forwarded d ev rs)) (sym q)
      (record {
        recipients = u.2;
        bytes = written h.target (forward_place s h w) (2 ^ h.code) h.notify ev rs u.1 event (omega (arith, u.0, u.2.to));
      })

-- ---- what an accepted event leaves, by its decision

module _ (s : Setup) (ev : List ℕ) (i : ℕ) (w : World) where
  abbrev d : Decision
  d = decision_in s ev w.state

  -- an event whose decision is known leaves what that decision leaves
  pub leaves_as : (x : Decision) → d ≡ x → step_of s ev i w ≡ leaves s ev i w x
  unfolding step_of
  leaves_as x q = ap (leaves s ev i w) q

  -- it is what its kind does
  pub accepted_as : (k : ℕ) → (head_of ev).kind ≡ k → outcome_of d ≡ 0
      → d ≡ accepted k (head_of ev) s (gateway_at w.state.gateways (head_of ev).target) w.state.waits
  unfolding decision_of
  accepted_as k e o = passed_as (head_of ev) s (gateway_at w.state.gateways (head_of ev).target) w.state.waits k e o
