-- The counts of a run add up to its notifications and releases: one law for N0 and N2, over the place of a count and the notify value that it is for.
-- Assumes nothing.
use mathlib.Core.Path.{◌≡◌, refl, ap, ap₂, ◌∙◌}
use mathlib.Core.Bool.{Bool, true, false, cond, ◌&&◌}
use mathlib.Core.List.{List}
use mathlib.Core.Logic.{◌≢◌}
use Prim.Native.Nat.{ℕ, zero, suc, ◌+◌, ◌*◌, ◌≤◌, ◌<◌}
use native.Mathlib.Omega.{arith}
use lib.Dec.{eqb}
use lib.ListN.{length, get_or, set, length-set}
use lib.Seq.{get_or-set_same, get_or-set_other}
use borrow.Author.Tests.{eqb-true, eqb-false, eq-eqb, ne_eqb}
use Rattle.laws.proofs.Choices.{by_cond, two_cond, by_test}
use Rattle.event.specs.declared.Head.{Head}
use Rattle.event.specs.declared.Setup.{Setup}
use Rattle.event.specs.declared.Gateway.{Gateway}
use Rattle.event.specs.Decision.{Decision, Refused, OpenOrClose, Forward, Wait, Release, Update}
use Rattle.event.specs.Head.{head_of}
use Rattle.event.specs.Gateways.{gateway_at}
use Rattle.event.specs.Groups.{group_of, over_members, members_of, group_size, own_group, whole_with}
use Rattle.event.specs.Outcomes.{is_barrier, decision_of, outcome_of}
use Rattle.event.specs.Within.{Within}
use Rattle.event.proofs.Decisions.{by_forward, by_release}
use Rattle.event.proofs.Reach.{decision_within}
use Rattle.event.proofs.Sources.{Source, decision_source}
use Rattle.recording.specs.Recording.{event_at}
use Rattle.effects.specs.Effects.{n0, n2, one_more, notified, group_notified, counts_after}
use Rattle.effects.proofs.CountLaws.{group_notified_long}
use Rattle.gateway.specs.Replay.{World, decision_in, step_of, run_of}
use Rattle.gateway.proofs.Bounds.{Windows, run_windows}
use Rattle.replay_claims.specs.Claims.{total_of, notification, release_size, notifications, release_sizes, Counted}

-- ---- totals

module _ (place : ℕ → ℕ) where
  -- a store at another place
  total_miss : (cs : List ℕ) (k v n : ℕ) → ((i : ℕ) → i < n → place i ≢ k) → total_of place n (set cs k v) ≡ total_of place n cs
  unfolding total_of
  total_miss cs k v zero h = refl
  total_miss cs k v (suc n) h =
      ap₂ (λ (a b : ℕ). a + b) (total_miss cs k v n (λ i l. h i (omega arith))) (get_or-set_other cs k (place n) v 0 (h n (omega arith)))

  -- one more at thread r's place
  total_hit : (cs : List ℕ) (r n : ℕ) → ((i : ℕ) → i < n → i ≢ r → place i ≢ place r) → r < n → place r < length cs
      → total_of place n (one_more cs (place r)) ≡ total_of place n cs + 1
  unfolding total_of
  total_hit cs r zero h l b = absurd (omega arith)
  total_hit cs r (suc n) h l b =
      by_test (eqb n r)
      (λ q. let e = eqb-true n r q in
      let x : total_of place n (one_more cs (place r)) ≡ total_of place n cs = total_miss cs (place r) (get_or cs (place r) 0 + 1) n (λ i k. h i (omega arith) (λ z. omega arith)) in
      let y : get_or (one_more cs (place r)) (place n) 0 ≡ get_or cs (place n) 0 + 1 = rw e (get_or-set_same cs (place r) (get_or cs (place r) 0 + 1) 0 b) in
      omega arith)
      (λ q. let m = eqb-false n r q in
      let x : total_of place n (one_more cs (place r)) ≡ total_of place n cs + 1 = total_hit cs r n (λ i k. h i (omega arith)) (omega arith) b in
      let y : get_or (one_more cs (place r)) (place n) 0 ≡ get_or cs (place n) 0 = get_or-set_other cs (place r) (place n) (get_or cs (place r) 0 + 1) 0 (h n (omega arith) m) in
      omega arith)

-- What counts at a place: a forward with notify `value` one, and a release of group g so many as `share g`.
record Counter (t : ℕ) (groups : List ℕ) (place : ℕ → ℕ) (value : ℕ) (share : ℕ → ℕ) : Type 0 where
  forwards : (r m : ℕ) (cs : List ℕ) → r < t → 2 * t ≤ length cs → total_of place t (notified r m cs) ≡ total_of place t cs + cond (eqb m value) 1 0
  releases : (g : ℕ) (cs : List ℕ) → 2 * t ≤ length cs → total_of place t (group_notified t groups g cs) ≡ total_of place t cs + share g

-- N0: of a release each member gets one
members_total : (groups : List ℕ) (g : ℕ) (cs : List ℕ) (n m : ℕ) → m ≤ n → 2 * n ≤ length cs → total_of n0 n (group_notified m groups g cs) ≡ total_of n0 n cs + members_of m groups g
unfolding over_members
members_total groups g cs n zero h l = omega arith
members_total groups g cs n (suc m) h l =
    let ih = members_total groups g cs n m (omega arith) l in
    let b : length (group_notified m groups g cs) ≡ length cs = group_notified_long groups g cs m in
    two_cond (λ (x : List ℕ) (y : ℕ). total_of n0 n x ≡ total_of n0 n cs + y) (eqb (group_of groups m) g) _ _ _ _
    (λ _. omega (arith, total_hit n0 (group_notified m groups g cs) m n (λ i k z e. z (omega arith)) (omega arith) (omega arith))) (λ _. ih)

counter_0 : (t : ℕ) (groups : List ℕ) → Counter t groups n0 1 (members_of t groups)
unfolding notified
counter_0 t groups =
    record {
      forwards = λ r m cs b l.
          by_test (eqb m 1)
          (λ q. simp q (total_hit n0 cs r t (λ i x z y. z (omega arith)) b (omega arith)))
          (λ q. simp q (by_cond (λ (x : List ℕ). total_of n0 t x ≡ total_of n0 t cs + 0) (eqb m 2) _ _
          (λ _. omega (arith, total_miss n0 cs (n2 r) (get_or cs (n2 r) 0 + 1) t (λ i x y. omega arith))) (λ _. omega arith)));
      releases = λ g cs l. members_total groups g cs t t (omega arith) l;
    }

-- N2: a release leaves it as it was
spared_total : (groups : List ℕ) (g : ℕ) (cs : List ℕ) (n m : ℕ) → total_of n2 n (group_notified m groups g cs) ≡ total_of n2 n cs
unfolding over_members
spared_total groups g cs n zero = refl
spared_total groups g cs n (suc m) =
    let ih = spared_total groups g cs n m in
    by_cond (λ (x : List ℕ). total_of n2 n x ≡ total_of n2 n cs) (eqb (group_of groups m) g) _ _
    (λ _. total_miss n2 (group_notified m groups g cs) (n0 m) _ n (λ i k e. omega arith) ∙ ih) (λ _. ih)

counter_2 : (t : ℕ) (groups : List ℕ) → Counter t groups n2 2 (λ _. 0)
unfolding notified
counter_2 t groups =
    record {
      forwards = λ r m cs b l.
          by_test (eqb m 1)
          (λ q. let z = eqb-true m 1 q in
          simp (q, ne_eqb m 2 (λ y. omega arith)) (omega (arith, total_miss n2 cs (n0 r) (get_or cs (n0 r) 0 + 1) t (λ i x y. omega arith))))
          (λ q. simp q (by_test (eqb m 2)
          (λ v. simp v (total_hit n2 cs r t (λ i x z y. z (omega arith)) b (omega arith)))
          (λ v. simp v (omega arith))));
      releases = λ g cs l. omega (arith, spared_total groups g cs t t);
    }

-- ---- one event

-- what an accepted release counts at the place
release_share : (ℕ → ℕ) → Setup → Head → ℕ → List Bool → ℕ
release_share share s h outcome waits = cond (eqb outcome 0 && (is_barrier h.kind && whole_with h s waits)) (share (own_group h s)) 0

module _ (place : ℕ → ℕ) (value : ℕ) (share : ℕ → ℕ) (h : Head) (s : Setup) (counter : Counter s.threads s.groups place value share)
    (g : Gateway) (waits : List Bool) (cs : List ℕ) (l : 2 * s.threads ≤ length cs)
  where
    abbrev t : ℕ
    t = s.threads

    Adds : Decision → Type 0
    Adds d = total_of place t (counts_after d s cs) ≡ total_of place t cs + (notification value h (outcome_of d) + release_share share s h (outcome_of d) waits)

    -- by kind and outcome
    no_notification : (o : ℕ) → (h.kind ≡ 2 → ⊥) → notification value h o ≡ 0
    unfolding notification
    no_notification o n = by_test (eqb o 0) (λ e. simp (e, ne_eqb _ _ n)) (λ e. simp e)

    no_release : (o : ℕ) → (h.kind ≡ 4 → ⊥) → release_share share s h o waits ≡ 0
    unfolding release_share
    no_release o n = by_test (eqb o 0) (λ e. simp (e, ne_eqb _ _ n)) (λ e. simp e)

    refused_none : (o : ℕ) → 31 ≤ o → notification value h o ≡ 0
    unfolding notification
    refused_none o k = simp (ne_eqb o 0 (λ e. omega arith))

    refused_no_release : (o : ℕ) → 31 ≤ o → release_share share s h o waits ≡ 0
    unfolding release_share
    refused_no_release o k = simp (ne_eqb o 0 (λ e. omega arith))

    own_notification : (m : ℕ) → h.kind ≡ 2 → m ≡ h.notify → cond (eqb m value) 1 0 ≡ notification value h 0
    unfolding notification
    own_notification m k e = simp (eq-eqb _ _ k, e)

    own_release : (whole : Bool) → h.kind ≡ 4 → whole_with h s waits ≡ whole → release_share share s h 0 waits ≡ cond whole (share (own_group h s)) 0
    unfolding release_share
    own_release whole k e = simp (eq-eqb _ _ k, e)

    -- what an event adds is what it counts for
    adds : (d : Decision) → Source h.kind h s g waits d → Within s d → Adds d
    unfolding Source Within counts_after outcome_of Adds
    adds (Refused n) z w = omega (arith, refused_none n w.0, refused_no_release n w.0)
    adds (OpenOrClose a b) z w = omega (arith, no_notification 0 (λ e. omega arith), no_release 0 (λ e. omega arith))
    adds (Forward r a n m) z w = omega (arith, counter.forwards r m cs w.0 l, own_notification m z.kind z.notify, no_release 0 (λ e. omega (arith, z.kind)))
    adds (Wait a) z w = omega (arith, no_notification 0 (λ e. omega (arith, z.1.kind)), own_release false z.1.kind z.1.then)
    adds (Release b) z w =
        omega (arith, no_notification 0 (λ e. omega (arith, z.1.kind)), own_release true z.1.kind z.1.then, ap share z.0, counter.releases b cs l)
    adds (Update b v) z w = omega (arith, no_notification 0 (λ e. omega arith), no_release 0 (λ e. omega arith))

-- ---- all events

notified_long : (r m : ℕ) (cs : List ℕ) → length (notified r m cs) ≡ length cs
unfolding notified
notified_long r m cs =
    by_cond (λ (l : List ℕ). length l ≡ length cs) (eqb m 1) _ _ (λ _. simp length-set) λ _.
    by_cond (λ (l : List ℕ). length l ≡ length cs) (eqb m 2) _ _ (λ _. simp length-set) (λ _. refl)

counts_long : (d : Decision) (s : Setup) (cs : List ℕ) → length (counts_after d s cs) ≡ length cs
unfolding counts_after
counts_long d s cs =
    by_forward (λ (l : List ℕ). length l ≡ length cs) d _ _ (λ r a n m _. notified_long r m cs)
    (by_release (λ (l : List ℕ). length l ≡ length cs) d _ cs (λ g _. group_notified_long s.groups g cs s.threads) refl)

module _ (rec : List ℕ) (s : Setup) (w : World) where
  run_counts_long : (n : ℕ) → length (run_of rec s n w).counts ≡ length w.counts
  unfolding run_of step_of
  run_counts_long zero = refl
  run_counts_long (suc n) = counts_long (decision_in s (event_at rec n) (run_of rec s n w).state) s (run_of rec s n w).counts ∙ run_counts_long n

  run_outcomes_long : (n : ℕ) → length (run_of rec s n w).outcomes ≡ length w.outcomes
  unfolding run_of step_of
  run_outcomes_long zero = refl
  run_outcomes_long (suc n) = simp length-set (run_outcomes_long n)

  -- past the events no outcome byte changes
  pub outcome_past : (n k : ℕ) → n ≤ k → get_or (run_of rec s n w).outcomes k 0 ≡ get_or w.outcomes k 0
  unfolding run_of step_of
  outcome_past zero k h = refl
  outcome_past (suc n) k h = get_or-set_other (run_of rec s n w).outcomes n k _ 0 (λ e. omega arith) ∙ outcome_past n k (omega arith)

  -- event i's outcome byte is that of its own decision, and no later event changes it
  pub outcome_at_lem : (n i : ℕ) → i < n → n ≤ length w.outcomes
      → get_or (run_of rec s n w).outcomes i 0 ≡ outcome_of (decision_in s (event_at rec i) (run_of rec s i w).state)
  unfolding run_of step_of
  outcome_at_lem zero i h l = absurd (omega arith)
  outcome_at_lem (suc n) i h l =
      let q = run_of rec s n w in
      let o = outcome_of (decision_in s (event_at rec n) q.state) in
      by_test (eqb i n)
      (λ e. rw (eqb-true i n e) (get_or-set_same q.outcomes n o 0 (omega (arith, run_outcomes_long n))))
      (λ e. let z = eqb-false i n e in get_or-set_other q.outcomes n i o 0 z ∙ outcome_at_lem n i (omega arith) (omega arith))

zero_total : (place : ℕ → ℕ) (n : ℕ) (cs : List ℕ) → ((k : ℕ) → get_or cs k 0 ≡ 0) → total_of place n cs ≡ 0
unfolding total_of
zero_total place zero cs z = refl
zero_total place (suc n) cs z = omega (arith, zero_total place n cs z, z (place n))

either_zero : (b : Bool) → ◌≡◌ {A = ℕ} (cond b 0 0) 0
either_zero true = refl
either_zero false = refl

-- of N events, after each n of them
module _ (rec : List ℕ) (s : Setup) (w : World) (N : ℕ) (room : N ≤ length w.outcomes) (two : length w.counts ≡ 2 * s.threads)
    (clear : (k : ℕ) → get_or w.counts k 0 ≡ 0) (v : Windows w.state.gateways) where
  abbrev outs : List ℕ
  outs = (run_of rec s N w).outcomes

  module _ (place : ℕ → ℕ) (value : ℕ) (share : ℕ → ℕ) (counter : Counter s.threads s.groups place value share) where
    abbrev share_at : ℕ → ℕ
    share_at n = release_share share s (head_of (event_at rec n)) (get_or outs n 0) (run_of rec s n w).state.waits

    shares : ℕ → ℕ
    shares zero = 0
    shares (suc n) = shares n + share_at n

    event_adds : (n : ℕ) → n < N → total_of place s.threads (run_of rec s (suc n) w).counts
        ≡ total_of place s.threads (run_of rec s n w).counts + (notification value (head_of (event_at rec n)) (get_or outs n 0) + share_at n)
    unfolding run_of step_of Adds
    event_adds n h =
        let q = run_of rec s n w in
        let e = head_of (event_at rec n) in
        let g = gateway_at q.state.gateways e.target in
        rw (outcome_at_lem rec s w N n h room)
        (adds place value share e s counter g q.state.waits q.counts (omega (arith, run_counts_long rec s w n)) (decision_of e s g q.state.waits)
        (decision_source e s g q.state.waits) (decision_within e s g q.state.waits (run_windows rec s n w v e.target)))

    sums : (n : ℕ) → n ≤ N → total_of place s.threads (run_of rec s n w).counts ≡ notifications rec s outs w value n + shares n
    unfolding run_of notifications shares
    sums zero h = zero_total place s.threads w.counts clear
    sums (suc n) h = omega (arith, event_adds n h, sums n (omega arith))

  all_members : (n : ℕ) → shares n0 1 (group_size s) (counter_0 s.threads s.groups) n ≡ release_sizes rec s outs w n
  unfolding shares release_sizes release_share release_size
  all_members zero = refl
  all_members (suc n) = ap (λ (x : ℕ). x + release_size s (head_of (event_at rec n)) (get_or outs n 0) (run_of rec s n w).state.waits) (all_members n)

  no_share : (n : ℕ) → shares n2 2 (λ _. 0) (counter_2 s.threads s.groups) n ≡ 0
  unfolding shares release_share
  no_share zero = refl
  no_share (suc n) =
      let h = head_of (event_at rec n) in
      omega (arith, no_share n, either_zero (eqb (get_or outs n 0) 0 && (is_barrier h.kind && whole_with h s (run_of rec s n w).state.waits)))

  pub counted : (n : ℕ) → n ≤ N → Counted rec s outs n w
  counted n h =
      record {
        n0s = sums n0 1 (group_size s) (counter_0 s.threads s.groups) n h ∙ ap (λ (x : ℕ). notifications rec s outs w 1 n + x) (all_members n);
        n2s = omega (arith, sums n2 2 (λ _. 0) (counter_2 s.threads s.groups) n h, no_share n);
      }
