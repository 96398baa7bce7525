-- What each kind of event leaves is what its decision leaves. Assumes nothing.
use mathlib.Core.Path.{◌≡◌, sym, ap, ◌∙◌}
use mathlib.Core.Bool.{Bool}
use mathlib.Core.List.{List, []}
use Prim.Native.Nat.{ℕ, ◌<◌}
use native.Mathlib.Omega.{arith}
use lib.ListN.{length}
use Rattle.event.specs.declared.Head.{Head}
use Rattle.event.specs.declared.Setup.{Setup}
use Rattle.event.specs.declared.Gateway.{Gateway}
use Rattle.event.specs.Decision.{Decision}
use Rattle.event.specs.Head.{byte_at, head_of}
use Rattle.event.specs.Groups.{Grouped}
use Rattle.event.specs.Gateways.{closed, gateway_at}
use Rattle.event.specs.Outcomes.{decision_of, outcome_of}
use Rattle.event.specs.ByKind.{decision_through, decision_alone}
use Rattle.event.proofs.ByKind.{forward_same, other_same, gate_same}
use Rattle.effects.specs.Effects.{gateways_after, bytes_after, waits_after, counts_after, forwarded, with_ack}
use Rattle.effects.specs.Releases.{counts_in}
use Rattle.effects.specs.Gateways.{gateways_in}
use Rattle.effects.proofs.ReleaseLaws.{counted_before}
use Rattle.effects.proofs.LeftAlone.{gateways_kept, bytes_kept, waits_kept, counts_kept, registers_kept, releases_counted}
use Rattle.barriers.specs.Barriers.{waiting_in, waits_in, message_decision, MessageLeft}
use Rattle.gateway.specs.Steps.{Held, held, Stepped}

module _ (s : Setup) (ev : List ℕ) (h : Head) (head : h ≡ head_of ev) (k : Held) (masks : k.waiting ≡ waiting_in s (waits_in s k.waiting)) where
  abbrev gs : List Gateway
  gs = gateways_in k.gateways

  abbrev ws : List Bool
  ws = waits_in s k.waiting

  -- by the head that the code read
  abbrev decided : Head → Decision
  decided x = decision_of x s (gateway_at gs x.target) ws

  stepped_by : {o : ℕ} {gws' ms' bs' rs' cs' : List ℕ} (d : Decision) → d ≡ decided h → o ≡ outcome_of d
      → gateways_in gws' ≡ gateways_after d gs → waits_in s ms' ≡ waits_after d s ws → ms' ≡ waiting_in s (waits_in s ms') → bs' ≡ bytes_after d k.bytes
      → rs' ≡ with_ack h o (forwarded d ev k.registers) → cs' ≡ counts_after d s k.counts → Stepped s ev o k (held gws' ms' bs' rs' cs')
  stepped_by d by eo eg ew em eb er ec =
      let e : d ≡ decided (head_of ev) = by ∙ ap decided head in
      let out : _ ≡ outcome_of (decided (head_of ev)) = eo ∙ ap outcome_of e in
      record {
        its_outcome = out;
        its_state = λ j. record {
          gateways = (eg ∙ ap (λ (x : Decision). gateways_after x gs) e) j;
          bytes = (eb ∙ ap (λ (x : Decision). bytes_after x k.bytes) e) j;
          waits = (ew ∙ ap (λ (x : Decision). waits_after x s ws) e) j;
        };
        its_registers = er ∙ (λ j. with_ack (head j) (out j) (forwarded (e j) ev k.registers));
        its_counts = ec ∙ ap (λ (x : Decision). counts_after x s k.counts) e;
        its_masks = em;
      }

  pub forward_leaves : {gate : Gateway} {o : ℕ} {rs' cs' : List ℕ} (ns cs : List ℕ) → h.kind ≡ 2 → gate ≡ gateway_at gs h.target → counts_in s ns cs ≡ k.counts
      → (o ≡ outcome_of (decision_through h s gate)) × (rs' ≡ with_ack h o (forwarded (decision_through h s gate) ev k.registers)) × (cs' ≡ counts_after (decision_through h s gate) s cs)
      → Stepped s ev o k (held k.gateways k.waiting k.bytes rs' (counts_in s ns cs'))
  forward_leaves {gate} ns cs two g counts e =
      stepped_by (decision_through h s gate) (forward_same h s gate [] ws two ∙ ap (λ (x : Gateway). decision_of h s x ws) g) e.0
      (gateways_kept h s gate [] (omega arith) gs)
      (waits_kept h s gate [] (λ z. omega arith) ws) masks
      (bytes_kept h s gate [] (λ z. omega arith) k.bytes) e.1
      (ap (counts_in s ns) e.2 ∙ counted_before s ns cs (decision_through h s gate) ∙ ap (counts_after (decision_through h s gate) s) counts)

  pub open_or_close_leaves : {o : ℕ} {gws' rs' : List ℕ} → h.kind < 2
      → (o ≡ outcome_of (decision_alone h s)) × (gateways_in gws' ≡ gateways_after (decision_alone h s) gs) × (rs' ≡ with_ack h o k.registers)
      → Stepped s ev o k (held gws' k.waiting k.bytes rs' k.counts)
  open_or_close_leaves {o} low e =
      stepped_by (decision_alone h s) (other_same h s closed (gateway_at gs h.target) [] ws (λ z. omega arith) (λ z. omega arith)) e.0 e.1
      (waits_kept h s closed [] (λ z. omega arith) ws) masks
      (bytes_kept h s closed [] (λ z. omega arith) k.bytes)
      (e.2 ∙ ap (with_ack h o) (registers_kept h s closed [] (λ z. omega arith) ev k.registers))
      (counts_kept h s closed [] (λ z. omega arith) (λ z. omega arith) k.counts)

  pub message_leaves : {o : ℕ} {ms' bs' rs' ns' : List ℕ} (ns cs : List ℕ) → 2 < h.kind → Grouped s → length ns ≡ 16 → counts_in s ns cs ≡ k.counts
      → MessageLeft h s o k.waiting k.bytes k.registers ns ms' bs' rs' ns' → Stepped s ev o k (held k.gateways ms' bs' rs' (counts_in s ns' cs))
  message_leaves {o} ns cs high grouped long counts e =
      let d = message_decision h s k.waiting in
      stepped_by d (gate_same h s closed (gateway_at gs h.target) ws (λ z. omega arith)) e.its_outcome
      (gateways_kept h s closed ws (omega arith) gs) e.its_waits e.its_masks e.its_bytes
      (e.its_registers ∙ ap (with_ack h o) (registers_kept h s closed ws (λ z. omega arith) ev k.registers))
      (ap (λ (n : List ℕ). counts_in s n cs) e.its_releases ∙ releases_counted h s closed ws (λ z. omega arith) grouped ns cs long ∙ ap (counts_after d s) counts)

-- the kind that the code reads is the head's
pub kind_is : (ev : List ℕ) {h : Head} {k : ℕ} → h ≡ head_of ev → k ≡ byte_at ev 0 → h.kind ≡ k
unfolding head_of
kind_is ev e q = ap (λ (x : Head). x.kind) e ∙ sym q
