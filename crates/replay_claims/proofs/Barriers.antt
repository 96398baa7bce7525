-- Barriers: whoever waits is a member, no group waits whole, and a release frees its group. Assumes nothing.
use mathlib.Core.Path.{◌≡◌, refl, sym, ap, ap₂, ◌∙◌, subst}
use mathlib.Core.Bool.{Bool, true, false, ◌&&◌}
use mathlib.Core.List.{List}
use Prim.Native.Nat.{ℕ, zero, suc, ◌/◌, ◌%◌, ◌^◌, ◌<◌}
use native.Mathlib.Omega.{arith}
use lib.Dec.{eqb}
use lib.ListN.{set, replicate}
use lib.Seq.{get_or-set_other}
use borrow.Author.Tests.{eqb-true, eqb-false}
use Rattle.laws.proofs.Choices.{two_cond, by_test, not_both}
use Rattle.event.specs.declared.Head.{Head}
use Rattle.event.specs.declared.Setup.{Setup}
use Rattle.event.specs.declared.Gateway.{Gateway}
use Rattle.event.specs.Decision.{Decision, Wait, Release}
use Rattle.event.specs.Head.{head_of}
use Rattle.event.specs.Gateways.{gateway_at}
use Rattle.event.specs.Groups.{no_group, group_of, waits_of, over_members, all_wait, whole_of, own_group, whole_with}
use Rattle.event.specs.Outcomes.{decision_of, outcome_of}
use Rattle.event.specs.Within.{Within}
use Rattle.event.proofs.Decisions.{by_wait, by_release}
use Rattle.event.proofs.Passed.{passed_as}
use Rattle.event.proofs.Reach.{decision_within}
use Rattle.event.proofs.Sources.{Source, decision_source}
use Rattle.event.proofs.Waiting.{one_missing}
use Rattle.recording.specs.Recording.{event_at}
use Rattle.effects.specs.Effects.{released, waits_after}
use Rattle.effects.proofs.Waits.{Threads, Members, threads_after, members_after, released_at, released_other}
use Rattle.barriers.specs.Barriers.{waiting_of}
use Rattle.gateway.specs.Replay.{World, decision_in, step_of, run_of}
use Rattle.replay_claims.specs.Claims.{SoundBarriers, NoneWaits, Spared}
use Rattle.gateway.proofs.Bounds.{Windows, run_windows}
use Rattle.barriers.proofs.Waits.{replicated}
use Rattle.barriers.proofs.Masks.{bit_of, mask_bit, bit_tells}

-- only who is in the group counts
whole_same : (groups : List ℕ) (g : ℕ) (a b : List Bool) (n : ℕ) → ((t : ℕ) → t < n → group_of groups t ≡ g → waits_of a t ≡ waits_of b t)
    → all_wait n groups g a ≡ all_wait n groups g b
unfolding over_members
whole_same groups g a b zero h = refl
whole_same groups g a b (suc n) h =
    let ih = whole_same groups g a b n (λ t l. h t (omega arith)) in
    two_cond (λ (x y : Bool). x ≡ y) (eqb (group_of groups n) g) _ _ _ _
    (λ e. ap₂ (λ (x y : Bool). x && y) (h n (omega arith) (eqb-true (group_of groups n) g e)) ih) (λ _. ih)

-- ---- the three claims, from event to event

module _ (s : Setup) (waits : List Bool) where
  abbrev NoneWhole : List Bool → Type 0
  NoneWhole ws = (t : ℕ) → t < s.threads → (group_of s.groups t ≡ no_group → ⊥) → whole_of s (group_of s.groups t) ws ≡ false

  module _ (h : Head) (g : Gateway) where
    none_whole_after : (d : Decision) → Source h.kind h s g waits d → NoneWhole waits → NoneWhole (waits_after d s waits)
    unfolding Source waits_after
    none_whole_after d z m =
        let own = own_group h s in
        by_wait NoneWhole d _ _
        (λ t q i l f. let y = subst (Source h.kind h s g waits) q z in
        by_test (eqb (group_of s.groups i) own)
        (λ b. ap (λ (x : ℕ). whole_of s x (set waits t true)) (eqb-true (group_of s.groups i) own b) ∙ ap (λ (x : ℕ). whole_of s own (set waits x true)) y.0 ∙ y.1.then)
        (λ b. whole_same s.groups (group_of s.groups i) (set waits t true) waits s.threads
        (λ j _ e. get_or-set_other waits t j true false (λ x. eqb-false (group_of s.groups i) own b (sym e ∙ ap (group_of s.groups) (x ∙ y.0)))) ∙ m i l f))
        (by_release NoneWhole d _ waits
        (λ r _ i l f. let freed = released s.threads s.groups r waits in
        by_test (eqb (group_of s.groups i) r)
        (λ b. one_missing s.groups (group_of s.groups i) freed s.threads i l refl (released_at s.groups r waits s.threads i l (eqb-true (group_of s.groups i) r b)))
        (λ b. whole_same s.groups (group_of s.groups i) freed waits s.threads
        (λ j _ e. released_other s.groups r waits s.threads j (λ x. eqb-false (group_of s.groups i) r b (sym e ∙ x))) ∙ m i l f))
        m)

    -- a barrier message that makes its group wait whole frees it
    freed_after : h.kind ≡ 4 → outcome_of (decision_of h s g waits) ≡ 0 → whole_with h s waits ≡ true
        → (t : ℕ) → t < s.threads → group_of s.groups t ≡ own_group h s → waits_of (waits_after (decision_of h s g waits) s waits) t ≡ false
    unfolding waits_after
    freed_after k o r t l e =
        let q : decision_of h s g waits ≡ Release (own_group h s) = passed_as h s g waits 4 k o ∙ simp r refl in
        subst (λ (d : Decision). waits_of (waits_after d s waits) t ≡ false) (sym q) (released_at s.groups (own_group h s) waits s.threads t l e)

    -- and no other group
    spared_after : h.kind ≡ 4 → outcome_of (decision_of h s g waits) ≡ 0 → whole_with h s waits ≡ true
        → (t : ℕ) → (group_of s.groups t ≡ own_group h s → ⊥) → waits_of (waits_after (decision_of h s g waits) s waits) t ≡ waits_of waits t
    unfolding waits_after
    spared_after k o r t e =
        let q : decision_of h s g waits ≡ Release (own_group h s) = passed_as h s g waits 4 k o ∙ simp r refl in
        subst (λ (d : Decision). waits_of (waits_after d s waits) t ≡ waits_of waits t) (sym q) (released_other s.groups (own_group h s) waits s.threads t e)

    -- one that does not waits
    waits_after_lem : h.kind ≡ 4 → outcome_of (decision_of h s g waits) ≡ 0 → whole_with h s waits ≡ false
        → waits_after (decision_of h s g waits) s waits ≡ set waits h.sender true
    unfolding waits_after
    waits_after_lem k o r =
        let q : decision_of h s g waits ≡ Wait h.sender = passed_as h s g waits 4 k o ∙ simp r refl in
        ap (λ (d : Decision). waits_after d s waits) q

-- ---- the mask of a barrier

module _ (groups : List ℕ) (b : ℕ) (waits : List Bool) where
  member_bit : (n t : ℕ) → t < n → waiting_of n groups b waits / 2 ^ t % 2 ≡ 1 → group_of groups t ≡ b
  unfolding bit_of
  member_bit n t h e =
      by_test (eqb (group_of groups t) b) (λ q. eqb-true (group_of groups t) b q)
      (λ q. let z : bit_of groups b waits t ≡ 0 = simp q in absurd (omega (arith, mask_bit groups b waits n t h)))

-- ---- after every event

module _ (rec : List ℕ) (s : Setup) (w : World) (v : Windows w.state.gateways) where
  module _ (n : ℕ) where
    abbrev q : World
    q = run_of rec s n w

    abbrev h : Head
    h = head_of (event_at rec n)

    abbrev g : Gateway
    g = gateway_at q.state.gateways h.target

    source : Source h.kind h s g q.state.waits (decision_in s (event_at rec n) q.state)
    source = decision_source h s g q.state.waits

    within : Within s (decision_in s (event_at rec n) q.state)
    within = decision_within h s g q.state.waits (run_windows rec s n w v h.target)

  run_threads : Threads s w.state.waits → (n : ℕ) → Threads s (run_of rec s n w).state.waits
  unfolding run_of step_of
  run_threads m zero = m
  run_threads m (suc n) = threads_after s (q n).state.waits (h n) (g n) (decision_in s (event_at rec n) (q n).state) (within n) (run_threads m n)

  run_members : Members s w.state.waits → (n : ℕ) → Members s (run_of rec s n w).state.waits
  unfolding run_of step_of
  run_members m zero = m
  run_members m (suc n) = members_after s (q n).state.waits (h n) (g n) (decision_in s (event_at rec n) (q n).state) (source n) (run_members m n)

  run_none_whole : NoneWhole s w.state.waits w.state.waits → (n : ℕ) → NoneWhole s w.state.waits (run_of rec s n w).state.waits
  unfolding run_of step_of
  run_none_whole m zero = m
  run_none_whole m (suc n) = none_whole_after s (q n).state.waits (h n) (g n) (decision_in s (event_at rec n) (q n).state) (source n) (run_none_whole m n)

  -- from nobody waiting
  pub sound : w.state.waits ≡ replicate 16 false → (n : ℕ) → SoundBarriers s (run_of rec s n w).state
  sound e n =
      let none : (t : ℕ) → waits_of w.state.waits t ≡ false = λ t. rw e (replicated false 16 t) in
      record {
        threads = run_threads (λ t a. absurd (not_both _ a (none t))) n;
        members = run_members (λ t a. absurd (not_both _ a (none t))) n;
        none_whole = run_none_whole (λ t l f. one_missing s.groups (group_of s.groups t) w.state.waits s.threads t l refl (none t)) n;
        at_barrier = λ b t l e. member_bit s.groups b (run_of rec s n w).state.waits s.threads t l e;
        shown = λ t l. bit_tells s.groups (group_of s.groups t) (run_of rec s n w).state.waits s.threads t l refl;
      }

  -- and after event n, where one more waits
  pub one_more_lem : (n : ℕ) → (head_of (event_at rec n)).kind ≡ 4 → outcome_of (decision_in s (event_at rec n) (run_of rec s n w).state) ≡ 0
      → whole_with (head_of (event_at rec n)) s (run_of rec s n w).state.waits ≡ false
      → (run_of rec s (suc n) w).state.waits ≡ set (run_of rec s n w).state.waits (head_of (event_at rec n)).sender true
  unfolding run_of step_of
  one_more_lem n k o r = waits_after_lem s (q n).state.waits (h n) (g n) k o r

  -- or where it is a release
  pub release_frees : (n : ℕ) → (head_of (event_at rec n)).kind ≡ 4 → outcome_of (decision_in s (event_at rec n) (run_of rec s n w).state) ≡ 0
      → whole_with (head_of (event_at rec n)) s (run_of rec s n w).state.waits ≡ true
      → NoneWaits s (own_group (head_of (event_at rec n)) s) (run_of rec s (suc n) w).state
      × Spared s (own_group (head_of (event_at rec n)) s) (run_of rec s n w).state (run_of rec s (suc n) w).state
  unfolding run_of step_of
  release_frees n k o r = (freed_after s (q n).state.waits (h n) (g n) k o r, spared_after s (q n).state.waits (h n) (g n) k o r)
