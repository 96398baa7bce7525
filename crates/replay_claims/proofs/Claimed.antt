-- Every claim of specs/Claims.antt, for a recording that is not refused. Assumes nothing.
use mathlib.Core.Path.{◌≡◌, refl, sym, ap, ◌∙◌, subst}
use mathlib.Core.Bool.{Bool, true, false, cond}
use mathlib.Core.Logic.{◌⊎◌, inl, inr}
use mathlib.Core.List.{List}
use Prim.Native.Nat.{ℕ, zero, suc, ◌*◌, ◌≤◌, ◌<◌}
use native.Mathlib.Omega.{arith}
use lib.ListN.{length, get_or, length-take, length-drop, length-replicate}
use lib.Dec.{eqb}
use borrow.Author.Tests.{eq-eqb, ne_eqb, eqb-true, eqb-false}
use Rattle.laws.proofs.Choices.{by_test}
use Rattle.event.specs.declared.Head.{Head}
use Rattle.event.specs.declared.Setup.{Setup}
use Rattle.event.specs.Head.{head_of}
use Rattle.event.specs.Gateways.{gateway_at}
use Rattle.event.specs.declared.Gateway.{Gateway}
use Rattle.event.specs.Decision.{Decision, Refused, OpenOrClose, Wait, Release}
use Rattle.event.specs.Groups.{own_group, whole_with}
use Rattle.event.specs.Outcomes.{Unserved, ends, accepted, outcome_of}
use Rattle.event.proofs.Reach.{decision_within}
use Rattle.recording.specs.Recording.{threads_of, events_of, setup_of, event_at, refusal_of}
use Rattle.effects.specs.Effects.{gateways_after, bytes_after, waits_after, counts_after, forwarded, with_ack}
use Rattle.effects.proofs.Acks.{ack_long}
use Rattle.effects.proofs.Forwarded.{forwarded_long}
use Rattle.gateway.specs.Replay.{World, decision_in, leaves, step_of, run_of, begun, Replay, ended, run_whole, replay_of}
use Rattle.replay_claims.specs.Claims.{Counted, Unchanged, end, met, head_at, outcome_at, Leaves, with_gateway, Arrived, Claims, AllClaimed, Numbered, NothingChanged}
use Rattle.replay_claims.specs.Claims.{Accepted, Opens, EndsThread, Closes, Forwards, Arrives, Updates}
use Rattle.recording.proofs.Accepted.{events_fill, registers_own, counts_two, outcomes_room}
use Rattle.barriers.proofs.Waits.{replicated}
use Rattle.gateway.proofs.Bounds.{Windows, start_windows, run_windows}
use Rattle.replay_claims.proofs.Counts.{outcome_at_lem, outcome_past, counted}
use Rattle.replay_claims.proofs.Events.{refused_unchanged, forward_written, leaves_as, accepted_as}
use Rattle.replay_claims.proofs.Barriers.{sound, one_more_lem, release_frees}

-- ---- registers keep their length

module _ (rec : List ℕ) (s : Setup) (w : World) (v : Windows w.state.gateways) (own : length w.registers ≡ 4096 * s.threads)
    (N : ℕ) (whole : (i : ℕ) → i < N → length (event_at rec i) ≡ 48) where
  pub run_registers_long : (n : ℕ) → n ≤ N → length (run_of rec s n w).registers ≡ 4096 * s.threads
  unfolding run_of step_of
  run_registers_long zero h = own
  run_registers_long (suc n) h =
      let q = run_of rec s n w in
      let e = head_of (event_at rec n) in
      let d = decision_in s (event_at rec n) q.state in
      let ih = run_registers_long n (omega arith) in
      ack_long e (outcome_of d) (forwarded d (event_at rec n) q.registers)
      ∙ forwarded_long s d (event_at rec n) q.registers (decision_within e s (gateway_at q.state.gateways e.target) q.state.waits (run_windows rec s n w v e.target)) (whole n h) ih
      ∙ ih

-- ---- no event of another kind is accepted

none_served : (e : Head) (s : Setup) (g : Gateway) (waits : List Bool) → Unserved e.kind → outcome_of (accepted e.kind e s g waits) ≡ 0 → ⊥
unfolding outcome_of
none_served e s g waits u z =
    let q : accepted e.kind e s g waits ≡ Refused 32 =
    simp (ne_eqb e.kind 0 u.no_open, ne_eqb e.kind 1 u.no_close, ne_eqb e.kind 2 u.no_forward, ne_eqb e.kind 4 u.no_barrier, ne_eqb e.kind 5 u.no_update) refl in
    omega (arith, sym (ap outcome_of q) ∙ z)

-- ---- the claims

module _ (rec registers counts outcomes : List ℕ) (passed : refusal_of rec (length registers) (length counts) (length outcomes) ≡ 0) where
  abbrev s : Setup
  s = setup_of rec

  abbrev w : World
  w = begun registers counts outcomes

  abbrev N : ℕ
  N = events_of rec

  -- what an event of kind k does that no row refuses
  abbrev accepted_at : ℕ → ℕ → Decision
  accepted_at n k =
      let w = (met rec registers counts outcomes n).state in
      let e = head_at rec registers counts outcomes n in
      accepted k e s (gateway_at w.gateways e.target) w.waits

  -- the end is the world after all events
  pub at_end : end rec registers counts outcomes ≡ ended s (run_of rec s N w)
  unfolding replay_of run_whole
  at_end = simp (eq-eqb _ 0 passed)

  threads : s.threads ≡ threads_of rec
  unfolding setup_of
  threads = refl

  clear : (k : ℕ) → get_or w.counts k 0 ≡ 0
  clear k = replicated 0 (length counts) k

  two : length w.counts ≡ 2 * s.threads
  two = length-replicate (length counts) 0 ∙ counts_two rec _ _ _ passed ∙ ap (λ (n : ℕ). 2 * n) (sym threads)

  room : N ≤ length w.outcomes
  room = outcomes_room rec _ _ _ passed

  pub event_long : (i : ℕ) → i < N → length (event_at rec i) ≡ 48
  event_long i h = let e = events_fill rec _ _ _ passed in simp (length-take, length-drop) (omega arith)

  pub registers_long : (n : ℕ) → n ≤ N → length (met rec registers counts outcomes n).registers ≡ 4096 * s.threads
  registers_long n h = run_registers_long rec s w start_windows (registers_own rec _ _ _ passed ∙ ap (λ (k : ℕ). 4096 * k) (sym threads)) N event_long n h

  -- event n's outcome byte at the end is that of its own decision
  pub outcome_is : (n : ℕ) → n < N → outcome_at rec registers counts outcomes n ≡ outcome_of (decision_in s (event_at rec n) (met rec registers counts outcomes n).state)
  outcome_is n h = ap (λ (r : Replay). get_or r.outcomes n 0) at_end ∙ outcome_at_lem rec s w N n h room

  all_counted : Counted rec s (end rec registers counts outcomes).outcomes N w
  all_counted = subst (λ (o : List ℕ). Counted rec s o N w) (sym (ap (λ (r : Replay). r.outcomes) at_end)) (counted rec s w N room two clear start_windows N (omega arith))

  -- event n is accepted, and does what its kind k does
  as_kind : (n k : ℕ) → n < N → outcome_at rec registers counts outcomes n ≡ 0 → (head_at rec registers counts outcomes n).kind ≡ k
      → met rec registers counts outcomes (suc n) ≡ leaves s (event_at rec n) n (met rec registers counts outcomes n) (accepted_at n k)
  unfolding run_of
  as_kind n k h o e =
      let m = met rec registers counts outcomes n in
      leaves_as s (event_at rec n) n m (accepted_at n k) (accepted_as s (event_at rec n) n m k e (sym (outcome_is n h) ∙ o))

  -- an open or a close leaves its sender's gateway
  gateway_left : (n k : ℕ) (g : Gateway) → n < N → outcome_at rec registers counts outcomes n ≡ 0 → (head_at rec registers counts outcomes n).kind ≡ k
      → accepted_at n k ≡ OpenOrClose (head_at rec registers counts outcomes n).sender g
      → Leaves rec registers counts outcomes n (with_gateway rec registers counts outcomes n g)
  unfolding gateways_after bytes_after waits_after counts_after forwarded outcome_of
  gateway_left n k g h o e a =
      let q = as_kind n k h o e ∙ ap (leaves s (event_at rec n) n (met rec registers counts outcomes n)) a in
      record { its_state = ap (λ (x : World). x.state) q; its_counts = ap (λ (x : World). x.counts) q; its_registers = ap (λ (x : World). x.registers) q }

  -- a barrier message
  arrived : (n : ℕ) (whole : Bool)
      → met rec registers counts outcomes (suc n)
      ≡ leaves s (event_at rec n) n (met rec registers counts outcomes n)
      (cond whole (Release (own_group (head_at rec registers counts outcomes n) s)) (Wait (head_at rec registers counts outcomes n).sender))
      → Arrived rec registers counts outcomes n whole
  unfolding gateways_after bytes_after counts_after forwarded outcome_of setup_of
  arrived n true q =
      record { its_gateways = ap (λ (x : World). x.state.gateways) q; its_bytes = ap (λ (x : World). x.state.bytes) q; its_registers = ap (λ (x : World). x.registers) q; its_counts = ap (λ (x : World). x.counts) q }
  arrived n false q =
      record { its_gateways = ap (λ (x : World). x.state.gateways) q; its_bytes = ap (λ (x : World). x.state.bytes) q; its_registers = ap (λ (x : World). x.registers) q; its_counts = ap (λ (x : World). x.counts) q }

  -- an accepted event's sort
  sort_of : (n : ℕ) → Accepted rec registers counts outcomes n
      → (Opens rec registers counts outcomes n ⊎ EndsThread rec registers counts outcomes n)
      ⊎ (Closes rec registers counts outcomes n ⊎ Forwards rec registers counts outcomes n)
      ⊎ (Arrives rec registers counts outcomes n ⊎ Updates rec registers counts outcomes n)
  sort_of n a =
      let e = head_at rec registers counts outcomes n in
      let q = met rec registers counts outcomes n in
      let z : outcome_of (decision_in s (event_at rec n) q.state) ≡ 0 = sym (outcome_is n a.0) ∙ a.1 in
      by_test (eqb e.kind 0)
      (λ k. by_test (ends e) (λ t. inl (inr (eqb-true e.kind 0 k, t))) (λ t. inl (inl (eqb-true e.kind 0 k, t))))
      (λ k0. by_test (eqb e.kind 1) (λ k. inr (inl (inl (eqb-true e.kind 1 k))))
      (λ k1. by_test (eqb e.kind 2) (λ k. inr (inl (inr (eqb-true e.kind 2 k))))
      (λ k2. by_test (eqb e.kind 4) (λ k. inr (inr (inl (eqb-true e.kind 4 k))))
      (λ k4. by_test (eqb e.kind 5) (λ k. inr (inr (inr (eqb-true e.kind 5 k))))
      (λ k5. absurd (none_served e s (gateway_at q.state.gateways e.target) q.state.waits
      (record {
        no_open = eqb-false e.kind 0 k0;
        no_close = eqb-false e.kind 1 k1;
        no_forward = eqb-false e.kind 2 k2;
        no_barrier = eqb-false e.kind 4 k4;
        no_update = eqb-false e.kind 5 k5;
      })
      (subst (λ (d : Decision). outcome_of d ≡ 0) (accepted_as s (event_at rec n) n q e.kind refl z) z)))))))

  all_claims : Claims rec registers counts outcomes
  unfolding run_of step_of gateways_after bytes_after waits_after counts_after forwarded outcome_of
  all_claims =
      let m = met rec registers counts outcomes in
      record {
        either = λ n h.
            by_test (eqb (outcome_at rec registers counts outcomes n) 0)
            (λ e. inr (h, eqb-true (outcome_at rec registers counts outcomes n) 0 e))
            (λ e. inl (h, eqb-false (outcome_at rec registers counts outcomes n) 0 e));
        served = λ n a. sort_of n a;
        n0s = rw (at_end, ← threads) (rw at_end at all_counted.n0s);
        n2s = rw (at_end, ← threads) (rw at_end at all_counted.n2s);
        refused = λ n a. let h = a.0 in let o = a.1 in subst (λ (x : ℕ). Unchanged s (event_at rec n) n x (m n)) (sym (outcome_is n h)) (refused_unchanged s (event_at rec n) n (m n) (λ e. o (outcome_is n h ∙ e)));
        forward = λ n a k.
            let h = a.0 in
            let o = a.1 in
            let z : outcome_of (decision_in s (event_at rec n) (m n).state) ≡ 0 = sym (outcome_is n h) ∙ o in
            let f = forward_written s (event_at rec n) (m n).state (m n).registers (event_long n h) (registers_long n (omega arith)) (run_windows rec s n w start_windows (head_at rec registers counts outcomes n).target) k z in
            record {
              recipients = f.recipients;
              bytes = forwarded (decision_in s (event_at rec n) (m n).state) (event_at rec n) (m n).registers;
              written = f.bytes;
              then = ap (λ (x : ℕ). with_ack (head_at rec registers counts outcomes n) x (forwarded (decision_in s (event_at rec n) (m n).state) (event_at rec n) (m n).registers)) z;
            };
        notify = λ n a k. let q = as_kind n 2 a.0 a.1 k in (ap (λ (x : World). x.state) q, ap (λ (x : World). x.counts) q);
        opens = λ n a k. gateway_left n 0 _ a.0 a.1 k.0 (simp k.1 refl);
        end_of_thread = λ n a k. gateway_left n 0 _ a.0 a.1 k.0 (simp k.1 refl);
        close = λ n a k. gateway_left n 1 _ a.0 a.1 k refl;
        update = λ n a k.
            let q = as_kind n 5 a.0 a.1 k in
            record { its_state = ap (λ (x : World). x.state) q; its_counts = ap (λ (x : World). x.counts) q; its_registers = ap (λ (x : World). x.registers) q };
        arrival = λ n a k.
            arrived n (whole_with (head_at rec registers counts outcomes n) s (m n).state.waits) (as_kind n 4 a.0 a.1 k);
        past = λ k h. ap (λ (r : Replay). get_or r.outcomes k 0) at_end ∙ outcome_past rec s w N k h;
        last = at_end;
        barriers = λ n. sound rec s w start_windows refl n;
        waits = λ n a k r. one_more_lem rec s w start_windows n k (sym (outcome_is n a.0) ∙ a.1) r;
        release = λ n a k r. release_frees rec s w start_windows n k (sym (outcome_is n a.0) ∙ a.1) r;
      }

pub all_claimed : AllClaimed
all_claimed rec registers counts outcomes passed = all_claims rec registers counts outcomes passed

pub numbered : Numbered
unfolding replay_of
numbered rec registers counts outcomes =
    let n = refusal_of rec (length registers) (length counts) (length outcomes) in
    by_test (eqb n 0) (λ e. simp e (sym (eqb-true n 0 e))) (λ e. simp e refl)

pub nothing_changed : NothingChanged
unfolding replay_of
nothing_changed rec registers counts outcomes refused =
    let n = refusal_of rec (length registers) (length counts) (length outcomes) in
    by_test (eqb n 0) (λ e. absurd (refused (numbered rec registers counts outcomes ∙ eqb-true n 0 e))) (λ e. simp e refl)
