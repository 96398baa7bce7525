-- The words of the isolation of recordings are as wide as the paper's. Assumes nothing.
use mathlib.Core.Path.{◌≡◌, sym, ap, subst, ◌∙◌}
use mathlib.Core.Logic.{◌⊎◌}
use mathlib.Core.List.{List}
use Prim.Native.Nat.{ℕ, ◌+◌, ◌-◌, ◌*◌, ◌^◌, ◌≤◌, ◌<◌}
use native.Mathlib.Nat.{add-sub_of_le}
use native.Mathlib.Omega.{arith}
use lib.Dec.{eqb}
use lib.ListN.{length, get_or, set, length-set}
use lib.Seq.{get_or-set_other}
use borrow.Author.Tests.{eqb-true, eqb-false}
use Rattle.laws.proofs.Choices.{by_test}
use Rattle.event.specs.Head.{byte_at}
use Rattle.effects.proofs.Acks.{ack_elsewhere}
use Rattle.recording.specs.Recording.{threads_of, events_of, first_event, event_at, form_refusal_of, refusal_of}
use Rattle.recording.proofs.Form.{form_passes}
use Rattle.replay_claims.specs.Claims.{end, head_at, outcome_at, place_at}
use Rattle.replay_claims.specs.Isolation.{Data, Alike, Outside, Landed, Received, HasEvents, Guards}
use Rattle.replay_claims.proofs.Claimed.{all_claimed, numbered}

any_data : (n event byte value : ℕ) (rec registers counts outcomes : List ℕ) → HasEvents rec registers counts outcomes
    → event < events_of rec → byte_at rec (10 + threads_of rec + 48 * event) ≡ 2 → byte_at rec (10 + threads_of rec + 48 * event + 4) ≡ n
    → 16 ≤ byte → byte ≤ 47 → Alike n rec (set rec (10 + threads_of rec + 48 * event + byte) value)
any_data n event byte value rec registers counts outcomes has one kind names from to =
    let p = 10 + threads_of rec + 48 * event + byte in
    let number : (end rec registers counts outcomes).answer.number ≡ refusal_of rec (length registers) (length counts) (length outcomes) = numbered rec registers counts outcomes in
    let form : form_refusal_of rec ≡ 0 = form_passes rec (length registers) (length counts) (length outcomes) (subst (λ (x : ℕ). (x ≡ 0) ⊎ (14 < x)) number has) in
    let first : 10 + threads_of rec + 48 * event ≡ first_event rec + 48 * event + 0 = omega arith in
    let own : Data n rec p = record {
      event = event;
      byte = byte;
      has_events = form;
      one = one;
      place = omega arith;
      from = omega arith;
      to = omega arith;
      kind = subst (λ (x : ℕ). byte_at rec x ≡ 2) first kind;
      names = names;
    } in
    record {
      long = sym (length-set rec p value);
      same = λ k out.
          by_test (eqb k p)
          (λ q. absurd (out (subst (Data n rec) (sym (eqb-true k p q)) own)))
          (λ q. sym (get_or-set_other rec p k value 0 (eqb-false k p q)));
    }

any_own : (n k value : ℕ) (rs : List ℕ) → 4096 * n ≤ k → k ≤ 4096 * n + 4095 → Outside n rs (set rs k value)
any_own n k value rs from to =
    record {
      long = sym (length-set rs k value);
      same = λ i out.
          by_test (eqb i k)
          (λ q. absurd (out (let e = eqb-true i k q in record { from = omega arith; to = omega arith })))
          (λ q. sym (get_or-set_other rs k i value 0 (eqb-false i k q)));
    }

lands : (n event j : ℕ) (rec registers counts outcomes : List ℕ) → (end rec registers counts outcomes).answer.number ≡ 0 → event < events_of rec
    → (head_at rec registers counts outcomes event).kind ≡ 2 → (head_at rec registers counts outcomes event).target ≡ n
    → outcome_at rec registers counts outcomes event ≡ 0 → j < 2 ^ (head_at rec registers counts outcomes event).code
    → Landed n rec registers counts outcomes (place_at rec registers counts outcomes event + j)
lands n event j rec registers counts outcomes passed one kind names outcome few =
    record {
      event = event;
      accepted = sym (numbered rec registers counts outcomes) ∙ passed;
      one = one;
      kind = kind;
      names = names;
      outcome = outcome;
      from = omega arith;
      to = omega arith;
    }

received : (n k : ℕ) (rec registers counts outcomes : List ℕ) (l : Landed n rec registers counts outcomes k) → Received n rec registers counts outcomes k l.event
received n k rec registers counts outcomes l =
    let e = l.event in
    let a = place_at rec registers counts outcomes e in
    let f = (all_claimed rec registers counts outcomes l.accepted).forward e (l.one, l.outcome) l.kind in
    let at : a + (k - a) ≡ k = add-sub_of_le l.from in
    record {
      from = omega (arith, f.recipients.from, l.names, l.from);
      to = omega (arith, f.recipients.to, l.names, l.to);
      first = l.from;
      last = l.to;
      held = λ out.
          ap (λ (rs : List ℕ). get_or rs k 0) f.then
          ∙ ack_elsewhere (head_at rec registers counts outcomes e) 0 f.bytes k out
          ∙ subst (λ (i : ℕ). get_or f.bytes i 0 ≡ get_or (event_at rec e) (16 + (k - a)) 0) at (f.written.inside (k - a) (omega (arith, l.from, l.to)));
    }

pub guards : Guards
guards = record { any_data = any_data; any_own = any_own; lands = lands; received = received }
