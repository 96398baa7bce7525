-- Isolation of recordings, by induction over the events (`isolated`, last). Assumes nothing.
use mathlib.Core.Path.{◌≡◌, refl, sym, ap, ap₂, ◌∙◌, subst}
use mathlib.Core.Bool.{not, ◌&&◌}
use mathlib.Core.List.{List, ◌++◌}
use Prim.Native.Nat.{ℕ, zero, suc, ◌+◌, ◌*◌, ◌-◌, ◌/◌, ◌%◌, ◌^◌, ◌≤◌, ◌<◌}
use native.Mathlib.Omega.{arith}
use lib.Dec.{ltb, eqb}
use lib.ListN.{length, get_or, set, take, drop, replicate, length-set, length-take, length-drop}
use lib.Seq.{get_or-take, get_or-drop, get_or-set_same, get_or-set_other, set_out, ext_get_or}
use borrow.Author.Tests.{ltb-true, ltb-false, eqb-true, eqb-false}
use Rattle.laws.specs.Find.{find_first}
use Rattle.laws.proofs.Choices.{by_test, two_cond}
use Rattle.laws.proofs.FindSame.{find_same}
use Rattle.laws.proofs.Paste.{paste_agree}
use Rattle.event.specs.declared.Head.{Head}
use Rattle.event.specs.declared.Setup.{Setup}
use Rattle.event.specs.Decision.{Decision, Refused, OpenOrClose, Forward, Wait, Release, Update}
use Rattle.event.specs.Head.{head_of}
use Rattle.event.specs.Gateways.{gateway_at}
use Rattle.event.specs.Outcomes.{decision_of, outcome_of}
use Rattle.event.specs.Within.{Within}
use Rattle.event.proofs.Reach.{decision_within}
use Rattle.event.proofs.Same.{head_same}
use Rattle.event.proofs.Sources.{Source, decision_source}
use Rattle.recording.specs.Recording.{threads_of, bypass_of, events_of, stray_group, stray_group_of, groups_of, setup_of, first_event, event_at, refusal_of}
use Rattle.effects.specs.Effects.{forwarded, acknowledged, ack_place, four_bytes, with_ack, counts_after}
use Rattle.effects.proofs.Forwarded.{forwarded_long}
use Rattle.gateway.specs.Replay.{State, state_after, World, decision_in, step_of, run_of, begun, Replay, refused_answer, end_answer, ended}
use Rattle.replay_claims.specs.Claims.{end, forward_place}
use Rattle.replay_claims.specs.Isolation.{Own, Data, Alike, Outside, Landed, Isolated}
use Rattle.gateway.proofs.Whole.{refused_whole}
use Rattle.gateway.proofs.Bounds.{Windows, start_windows, run_windows}
use Rattle.replay_claims.proofs.Claimed.{at_end, event_long, registers_long, outcome_is}

-- ---- one event over two lists of registers that agree at an index

-- two lists of one length that agree at index k
record Agree (k : ℕ) (l l' : List ℕ) : Type 0 where
  long : length l ≡ length l'
  at : get_or l k 0 ≡ get_or l' k 0

set_agree : (k i v : ℕ) (l l' : List ℕ) → Agree k l l' → Agree k (set l i v) (set l' i v)
set_agree k i v l l' a =
    record {
      long = length-set l i v ∙ a.long ∙ sym (length-set l' i v);
      at = by_test (eqb k i)
          (λ p. let z = eqb-true k i p in
          rw z (by_test (ltb i (length l))
          (λ b. let h = ltb-true i (length l) b in get_or-set_same l i v 0 h ∙ sym (get_or-set_same l' i v 0 (omega (arith, a.long))))
          (λ b. let h = ltb-false i (length l) b in rw (set_out l i v h, set_out l' i v (omega (arith, a.long))) (rw z at a.at))))
          (λ p. let z = eqb-false k i p in get_or-set_other l i k v 0 z ∙ a.at ∙ sym (get_or-set_other l' i k v 0 z));
    }

four_agree : (k p v : ℕ) (l l' : List ℕ) → Agree k l l' → Agree k (four_bytes l p v) (four_bytes l' p v)
four_agree k p v l l' a =
    let b = set_agree k p (v % 2 ^ 8) l l' a in
    let c = set_agree k (p + 1) (v / 2 ^ 8 % 2 ^ 8) (set l p (v % 2 ^ 8)) (set l' p (v % 2 ^ 8)) b in
    let d = set_agree k (p + 2) (v / 2 ^ 16 % 2 ^ 8) (set (set l p (v % 2 ^ 8)) (p + 1) (v / 2 ^ 8 % 2 ^ 8)) (set (set l' p (v % 2 ^ 8)) (p + 1) (v / 2 ^ 8 % 2 ^ 8)) c in
    set_agree k (p + 3) (v / 2 ^ 24 % 2 ^ 8)
    (set (set (set l p (v % 2 ^ 8)) (p + 1) (v / 2 ^ 8 % 2 ^ 8)) (p + 2) (v / 2 ^ 16 % 2 ^ 8))
    (set (set (set l' p (v % 2 ^ 8)) (p + 1) (v / 2 ^ 8 % 2 ^ 8)) (p + 2) (v / 2 ^ 16 % 2 ^ 8)) d

ack_agree : (h : Head) (o : ℕ) (l l' : List ℕ) (k : ℕ) → length l ≡ length l' → get_or l k 0 ≡ get_or l' k 0 → get_or (with_ack h o l) k 0 ≡ get_or (with_ack h o l') k 0
unfolding with_ack
ack_agree h o l l' k e q =
    two_cond (λ (x y : List ℕ). get_or x k 0 ≡ get_or y k 0) (acknowledged h o) _ _ _ _ (λ _. (four_agree k (ack_place h) o l l' (record { long = e; at = q })).at) (λ _. q)

-- a decision writes forwarded bytes to index k
abbrev Hits : ℕ → Decision → Type 0
Hits k (Refused n) = ⊥
Hits k (OpenOrClose t g) = ⊥
Hits k (Forward r a n m) = (a ≤ k) × (k < a + n)
Hits k (Wait t) = ⊥
Hits k (Release g) = ⊥
Hits k (Update b v) = ⊥

forwarded_agree : (s : Setup) (k : ℕ) (d : Decision) (ev ev' l l' : List ℕ) → Within s d → length ev ≡ 48 → length ev' ≡ 48
    → length l ≡ 4096 * s.threads → length l' ≡ 4096 * s.threads
    → (Hits k d → (j : ℕ) → j < 48 → get_or ev j 0 ≡ get_or ev' j 0) → get_or l k 0 ≡ get_or l' k 0 → get_or (forwarded d ev l) k 0 ≡ get_or (forwarded d ev' l') k 0
unfolding Within forwarded
forwarded_agree s k (Refused n) ev ev' l l' w e e' o o' h q = q
forwarded_agree s k (OpenOrClose t g) ev ev' l l' w e e' o o' h q = q
forwarded_agree s k (Forward r a n m) ev ev' l l' w e e' o o' h q =
    paste_agree 0 l l' a (drop 16 ev) (drop 16 ev') n k (omega (arith, w.0, w.2.to)) (omega (arith, w.0, w.2.to)) (simp length-drop (omega (arith, w.1))) (simp length-drop (omega (arith, w.1)))
    (λ f g. get_or-drop 16 ev (k - a) 0 ∙ h (f, g) (16 + (k - a)) (omega (arith, w.1)) ∙ sym (get_or-drop 16 ev' (k - a) 0)) q
forwarded_agree s k (Wait t) ev ev' l l' w e e' o o' h q = q
forwarded_agree s k (Release g) ev ev' l l' w e e' o o' h q = q
forwarded_agree s k (Update b v) ev ev' l l' w e e' o o' h q = q

-- ---- two recordings that agree but for what is forwarded to n

module _ (n : ℕ) (rec rec' : List ℕ) (al : Alike n rec rec') where
  header : (k : ℕ) → k < first_event rec → get_or rec k 0 ≡ get_or rec' k 0
  header k h = al.same k (λ x. omega (arith, x.place, x.from, h))

  threads_same : threads_of rec ≡ threads_of rec'
  threads_same = header 5 (omega arith)

  events_same : events_of rec ≡ events_of rec'
  events_same = ap₂ (λ (a b : ℕ). a + 256 * b) (header 7 (omega arith)) (header 8 (omega arith))

  group_bytes : take (threads_of rec) (drop 10 rec) ≡ take (threads_of rec) (drop 10 rec')
  group_bytes =
      ext_get_or 0 (take (threads_of rec) (drop 10 rec)) (take (threads_of rec) (drop 10 rec')) (simp (length-take, length-drop, al.long))
      (λ i h. let b : i < threads_of rec = omega (arith, simp (length-take, length-drop) at h) in
      get_or-take (threads_of rec) (drop 10 rec) i 0 b ∙ get_or-drop 10 rec i 0 ∙ header (10 + i) (omega arith) ∙ sym (get_or-take (threads_of rec) (drop 10 rec') i 0 b ∙ get_or-drop 10 rec' i 0))

  setup_same : setup_of rec ≡ setup_of rec'
  unfolding setup_of groups_of
  setup_same =
      ap (λ (l : List ℕ). record { threads = threads_of rec; bypass = bypass_of rec; groups = l ++ replicate (16 - threads_of rec) 255 }) group_bytes
      ∙ ap₂ (λ (t b : ℕ). record { threads = t; bypass = b; groups = take t (drop 10 rec') ++ replicate (16 - t) 255 }) threads_same (header 6 (omega arith))

  stray_same : stray_group_of rec ≡ stray_group_of rec'
  unfolding stray_group_of
  stray_same =
      find_same (stray_group rec) (stray_group rec') (threads_of rec) (λ t h. ap (λ (x : ℕ). ltb 15 x && not (eqb x 255)) (header (10 + t) (omega arith)))
      ∙ ap (λ (t : ℕ). find_first t (stray_group rec')) threads_same

  refusal_same : (r c o : ℕ) → refusal_of rec r c o ≡ refusal_of rec' r c o
  unfolding refusal_of
  refusal_same r c o =
      simp (
        al.long,
        stray_same,
        header 0 (omega arith),
        header 1 (omega arith),
        header 2 (omega arith),
        header 3 (omega arith),
        header 4 (omega arith),
        header 5 (omega arith),
        header 6 (omega arith),
        header 7 (omega arith),
        header 8 (omega arith),
        header 9 (omega arith),
      )

  -- the bytes of an event
  event_at_lem : (l : List ℕ) (i j : ℕ) → j < 48 → get_or (event_at l i) j 0 ≡ get_or l (first_event l + 48 * i + j) 0
  event_at_lem l i j h = get_or-take 48 (drop (first_event l + 48 * i) l) j 0 h ∙ get_or-drop (first_event l + 48 * i) l j 0

  byte_same : (i j : ℕ) → j < 48 → (Data n rec (first_event rec + 48 * i + j) → ⊥) → get_or (event_at rec i) j 0 ≡ get_or (event_at rec' i) j 0
  byte_same i j h none =
      event_at_lem rec i j h
      ∙ al.same (first_event rec + 48 * i + j) none
      ∙ ap (λ (t : ℕ). get_or rec' (10 + t + 48 * i + j) 0) threads_same
      ∙ sym (event_at_lem rec' i j h)

  heads_same : (i : ℕ) → head_of (event_at rec i) ≡ head_of (event_at rec' i)
  heads_same i = head_same (event_at rec i) (event_at rec' i) (λ j h. byte_same i j (omega arith) (λ x. omega (arith, x.place, x.from, x.to)))

  -- an event that is no forward naming n is the same in both
  data_same : (i : ℕ) → ((head_of (event_at rec i)).kind ≡ 2 → (head_of (event_at rec i)).target ≡ n → ⊥) → (j : ℕ) → j < 48 → get_or (event_at rec i) j 0 ≡ get_or (event_at rec' i) j 0
  unfolding head_of
  data_same i none j h =
      byte_same i j h (λ x.
      let q : i ≡ x.event = omega (arith, x.place, x.from, x.to) in
      none
      (event_at_lem rec i 0 (omega arith) ∙ ap (λ (m : ℕ). get_or rec (first_event rec + 48 * m + 0) 0) q ∙ x.kind)
      (event_at_lem rec i 4 (omega arith) ∙ ap (λ (m : ℕ). get_or rec (first_event rec + 48 * m + 4) 0) q ∙ x.names))

-- ---- what an event that writes forwarded bytes to index k is

record Hit (s : Setup) (h : Head) (q : State) (k o : ℕ) : Type 0 where
  kind : h.kind ≡ 2
  accepted : o ≡ 0
  from : forward_place s h q ≤ k
  to : k < forward_place s h q + 2 ^ h.code
  own : Own h.target k

hit_is : (s : Setup) (h : Head) (q : State) (k : ℕ) (d : Decision) → Source h.kind h s (gateway_at q.gateways h.target) q.waits d → Within s d → Hits k d → Hit s h q k (outcome_of d)
unfolding Source Within outcome_of
hit_is s h q k (Refused n) z w f = absurd f
hit_is s h q k (OpenOrClose t g) z w f = absurd f
hit_is s h q k (Forward r a n m) z w f =
    record {
      kind = z.kind;
      accepted = refl;
      from = omega (arith, z.at, f.0);
      to = omega (arith, z.at, z.count, f.1);
      own = record { from = omega (arith, z.to, w.2.from, f.0); to = omega (arith, z.to, w.2.to, f.1) };
    }
hit_is s h q k (Wait t) z w f = absurd f
hit_is s h q k (Release g) z w f = absurd f
hit_is s h q k (Update b v) z w f = absurd f

-- ---- the runs

-- two worlds that agree in all but their registers
record Pair (q q' : World) : Type 0 where
  state : q.state ≡ q'.state
  counts : q.counts ≡ q'.counts
  outcomes : q.outcomes ≡ q'.outcomes

module _ (n : ℕ) (rec rec' : List ℕ) (al : Alike n rec rec') (s : Setup) (w w' : World) (p₀ : Pair w w') (v : Windows w.state.gateways) where
  same_decision : (i : ℕ) (q q' : World) → q.state ≡ q'.state → decision_in s (event_at rec i) q.state ≡ decision_in s (event_at rec' i) q'.state
  same_decision i q q' e = ap₂ (λ (h : Head) (x : State). decision_of h s (gateway_at x.gateways h.target) x.waits) (heads_same n rec rec' al i) e

  run_pair : (i : ℕ) → Pair (run_of rec s i w) (run_of rec' s i w')
  unfolding run_of step_of
  run_pair zero = p₀
  run_pair (suc i) =
      let p = run_pair i in
      let d = same_decision i (run_of rec s i w) (run_of rec' s i w') p.state in
      record {
        state = ap₂ (λ (x : Decision) (y : State). state_after x s y) d p.state;
        counts = ap₂ (λ (x : Decision) (y : List ℕ). counts_after x s y) d p.counts;
        outcomes = ap₂ (λ (x : Decision) (y : List ℕ). set y i (outcome_of x)) d p.outcomes;
      }

  source_at : (i : ℕ) → Source (head_of (event_at rec i)).kind (head_of (event_at rec i)) s (gateway_at (run_of rec s i w).state.gateways (head_of (event_at rec i)).target) (run_of rec s i w).state.waits (decision_in s (event_at rec i) (run_of rec s i w).state)
  source_at i = decision_source (head_of (event_at rec i)) s (gateway_at (run_of rec s i w).state.gateways (head_of (event_at rec i)).target) (run_of rec s i w).state.waits

  within_at : (i : ℕ) → Within s (decision_in s (event_at rec i) (run_of rec s i w).state)
  within_at i = decision_within (head_of (event_at rec i)) s (gateway_at (run_of rec s i w).state.gateways (head_of (event_at rec i)).target) (run_of rec s i w).state.waits (run_windows rec s i w v (head_of (event_at rec i)).target)

  module _ (N : ℕ) (whole : (i : ℕ) → i < N → length (event_at rec i) ≡ 48) (whole' : (i : ℕ) → i < N → length (event_at rec' i) ≡ 48)
      (own : (i : ℕ) → i ≤ N → length (run_of rec s i w).registers ≡ 4096 * s.threads) (own' : (i : ℕ) → i ≤ N → length (run_of rec' s i w').registers ≡ 4096 * s.threads) where
    -- at an index where the registers agree they agree after the run, if each event that writes there is the same in both
    run_at : (k : ℕ) → get_or w.registers k 0 ≡ get_or w'.registers k 0
        → ((i : ℕ) → i < N → Hits k (decision_in s (event_at rec i) (run_of rec s i w).state) → (j : ℕ) → j < 48 → get_or (event_at rec i) j 0 ≡ get_or (event_at rec' i) j 0)
        → (i : ℕ) → i ≤ N → get_or (run_of rec s i w).registers k 0 ≡ get_or (run_of rec' s i w').registers k 0
    unfolding run_of step_of
    run_at k q h zero b = q
    run_at k q h (suc i) b =
        let z = run_of rec s i w in
        let z' = run_of rec' s i w' in
        let d = decision_in s (event_at rec i) z.state in
        let o : length z.registers ≡ 4096 * s.threads = own i (omega arith) in
        let o' : length z'.registers ≡ 4096 * s.threads = own' i (omega arith) in
        let f = forwarded_agree s k d (event_at rec i) (event_at rec' i) z.registers z'.registers (within_at i) (whole i b) (whole' i b) o o' (h i b) (run_at k q h i (omega arith)) in
        let l : length (forwarded d (event_at rec i) z.registers) ≡ length (forwarded d (event_at rec' i) z'.registers) =
        forwarded_long s d (event_at rec i) z.registers (within_at i) (whole i b) o ∙ o ∙ sym (forwarded_long s d (event_at rec' i) z'.registers (within_at i) (whole' i b) o' ∙ o') in
        subst (λ (x : Decision). get_or (with_ack (head_of (event_at rec i)) (outcome_of d) (forwarded d (event_at rec i) z.registers)) k 0 ≡ get_or (with_ack (head_of (event_at rec' i)) (outcome_of x) (forwarded x (event_at rec' i) z'.registers)) k 0)
        (same_decision i z z' (run_pair i).state)
        (subst (λ (x : Head). get_or (with_ack (head_of (event_at rec i)) (outcome_of d) (forwarded d (event_at rec i) z.registers)) k 0 ≡ get_or (with_ack x (outcome_of d) (forwarded d (event_at rec' i) z'.registers)) k 0)
        (heads_same n rec rec' al i)
        (ack_agree (head_of (event_at rec i)) (outcome_of d) (forwarded d (event_at rec i) z.registers) (forwarded d (event_at rec' i) z'.registers) k l f))

    -- outside n's registers no forward naming n writes
    run_outside : (k : ℕ) → (Own n k → ⊥) → get_or w.registers k 0 ≡ get_or w'.registers k 0 → get_or (run_of rec s N w).registers k 0 ≡ get_or (run_of rec' s N w').registers k 0
    run_outside k out q =
        run_at k q (λ i b f. data_same n rec rec' al i (λ _ names. out (subst (λ (m : ℕ). Own m k) names
        (hit_is s (head_of (event_at rec i)) (run_of rec s i w).state k (decision_in s (event_at rec i) (run_of rec s i w).state) (source_at i) (within_at i) f).own))) N (omega arith)

-- ---- the theorem

module _ (n : ℕ) (rec rec' registers registers' counts outcomes : List ℕ) (al : Alike n rec rec') (o : Outside n registers registers') where
  abbrev number : ℕ
  number = refusal_of rec (length registers) (length counts) (length outcomes)

  abbrev number' : ℕ
  number' = refusal_of rec' (length registers') (length counts) (length outcomes)

  same_number : number ≡ number'
  same_number = refusal_same n rec rec' al (length registers) (length counts) (length outcomes) ∙ ap (λ (r : ℕ). refusal_of rec' r (length counts) (length outcomes)) o.long

  -- refused as a whole, both
  refused_both : (number ≡ 0 → ⊥) → Isolated n rec rec' registers registers' counts outcomes
  refused_both f =
      let e = refused_whole rec registers counts outcomes {n = number} refl f refl in
      let e' = refused_whole rec' registers' counts outcomes {n = number'} refl (λ z. f (same_number ∙ z)) refl in
      let rs : registers ≡ (end rec registers counts outcomes).registers = ap (λ (x : Replay). x.registers) e in
      let rs' : registers' ≡ (end rec' registers' counts outcomes).registers = ap (λ (x : Replay). x.registers) e' in
      record {
        answer = sym (ap (λ (x : Replay). x.answer) e) ∙ ap refused_answer same_number ∙ ap (λ (x : Replay). x.answer) e';
        counted = sym (ap (λ (x : Replay). x.counts) e) ∙ ap (λ (x : Replay). x.counts) e';
        outcome = sym (ap (λ (x : Replay). x.outcomes) e) ∙ ap (λ (x : Replay). x.outcomes) e';
        outside = subst (λ (l : List ℕ). Outside n l (end rec' registers' counts outcomes).registers) rs (subst (Outside n registers) rs' o);
        inside = λ k _ q _. sym (ap (λ (l : List ℕ). get_or l k 0) rs) ∙ q ∙ ap (λ (l : List ℕ). get_or l k 0) rs';
      }

  module _ (passed : number ≡ 0) where
    passed' : number' ≡ 0
    passed' = sym same_number ∙ passed

    abbrev s : Setup
    s = setup_of rec

    abbrev N : ℕ
    N = events_of rec

    abbrev w : World
    w = begun registers counts outcomes

    abbrev w' : World
    w' = begun registers' counts outcomes

    setup_is : s ≡ setup_of rec'
    setup_is = setup_same n rec rec' al

    events_is : N ≡ events_of rec'
    events_is = events_same n rec rec' al

    end_is : end rec registers counts outcomes ≡ ended s (run_of rec s N w)
    end_is = at_end rec registers counts outcomes passed

    end_is' : end rec' registers' counts outcomes ≡ ended s (run_of rec' s N w')
    end_is' = at_end rec' registers' counts outcomes passed' ∙ (λ j. ended (sym setup_is j) (run_of rec' (sym setup_is j) (sym events_is j) w'))

    p₀ : Pair w w'
    p₀ = record { state = refl; counts = refl; outcomes = refl }

    pair : Pair (run_of rec s N w) (run_of rec' s N w')
    pair = run_pair n rec rec' al s w w' p₀ start_windows N

    long' : (i : ℕ) → i < N → length (event_at rec' i) ≡ 48
    long' i h = event_long rec' registers' counts outcomes passed' i (rw (← events_is) h)

    own : (i : ℕ) → i ≤ N → length (run_of rec s i w).registers ≡ 4096 * s.threads
    own i h = registers_long rec registers counts outcomes passed i h

    own' : (i : ℕ) → i ≤ N → length (run_of rec' s i w').registers ≡ 4096 * s.threads
    own' i h = subst (λ (x : Setup). length (run_of rec' x i w').registers ≡ 4096 * x.threads) (sym setup_is) (registers_long rec' registers' counts outcomes passed' i (rw (← events_is) h))

    registers_is : (end rec registers counts outcomes).registers ≡ (run_of rec s N w).registers
    registers_is = ap (λ (x : Replay). x.registers) end_is

    registers_is' : (end rec' registers' counts outcomes).registers ≡ (run_of rec' s N w').registers
    registers_is' = ap (λ (x : Replay). x.registers) end_is'

    at_k : (k : ℕ) → get_or (run_of rec s N w).registers k 0 ≡ get_or (run_of rec' s N w').registers k 0
        → get_or (end rec registers counts outcomes).registers k 0 ≡ get_or (end rec' registers' counts outcomes).registers k 0
    at_k k q = ap (λ (l : List ℕ). get_or l k 0) registers_is ∙ q ∙ sym (ap (λ (l : List ℕ). get_or l k 0) registers_is')

    -- an event that hits a byte of n's registers is a forward that landed there
    landed : (k : ℕ) → Own n k → (i : ℕ) → i < N → Hits k (decision_in s (event_at rec i) (run_of rec s i w).state) → Landed n rec registers counts outcomes k
    landed k mine i b f =
        let h = hit_is s (head_of (event_at rec i)) (run_of rec s i w).state k (decision_in s (event_at rec i) (run_of rec s i w).state) (source_at n rec rec' al s w w' p₀ start_windows i) (within_at n rec rec' al s w w' p₀ start_windows i) f in
        record {
          event = i;
          accepted = passed;
          one = b;
          kind = h.kind;
          names = omega (arith, h.own.from, h.own.to, mine.from, mine.to);
          outcome = outcome_is rec registers counts outcomes passed i b ∙ h.accepted;
          from = h.from;
          to = h.to;
        }

    replayed_both : Isolated n rec rec' registers registers' counts outcomes
    replayed_both =
        record {
          answer = ap (λ (x : Replay). x.answer) end_is ∙ ap (end_answer s) pair.state ∙ sym (ap (λ (x : Replay). x.answer) end_is');
          counted = ap (λ (x : Replay). x.counts) end_is ∙ pair.counts ∙ sym (ap (λ (x : Replay). x.counts) end_is');
          outcome = ap (λ (x : Replay). x.outcomes) end_is ∙ pair.outcomes ∙ sym (ap (λ (x : Replay). x.outcomes) end_is');
          outside = record {
            long = ap length registers_is ∙ own N (omega arith) ∙ sym (ap length registers_is' ∙ own' N (omega arith));
            same = λ k out. at_k k (run_outside n rec rec' al s w w' p₀ start_windows N (event_long rec registers counts outcomes passed) long' own own' k out (o.same k out));
          };
          inside = λ k mine q none. at_k k (run_at n rec rec' al s w w' p₀ start_windows N (event_long rec registers counts outcomes passed) long' own own' k q (λ i b f. absurd (none (landed k mine i b f))) N (omega arith));
        }

  -- What is forwarded to n shows nowhere but in n's registers, and there only where a forward landed.
  pub isolated : Isolated n rec rec' registers registers' counts outcomes
  isolated = by_test (eqb number 0) (λ q. replayed_both (eqb-true number 0 q)) (λ q. refused_both (eqb-false number 0 q))
