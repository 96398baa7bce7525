-- Every claim of specs/Claims.antt, of every batch, run, record buffer and state bytes. Assumes nothing.
use mathlib.Core.Path.{◌≡◌, refl, sym, ap, subst, subst⁻¹, ◌∙◌}
use mathlib.Core.Logic.{◌⊎◌, inl, inr}
use mathlib.Core.List.Memᴰ
use mathlib.Core.List.{List, [], ◌∷◌, Memᴰ}
use Prim.Native.Nat.{ℕ, zero, suc, ◌/◌, ◌<◌, ◌≤◌}
use native.Mathlib.Omega.{arith}
use lib.Dec.{eqb}
use borrow.Author.Tests.{eqb-true, eqb-false}
use lib.ListN.{length, get_or, take, set}
use Rattle.laws.proofs.Choices.{by_cond, by_test}
use Rattle.chips.specs.declared.Chip.{Chip}
use Rattle.chips.specs.declared.Target.{Target}
use Rattle.chips.specs.Chips as chips
use Rattle.chips.proofs.Chips.{on_none, on_named, by_either}
use Rattle.words.specs.Dwords.{dwords_of, put_le}
use Rattle.command.specs.Order.{Command}
use Rattle.records.specs.Records.{recorded}
use Rattle.reading.specs.Vfes.{command_number}
use Rattle.reading.specs.Decision.{Scanned, Stopped, Ended}
use Rattle.reading.specs.Reading.{reading_of}
use Rattle.objects.specs.Objects.{Delta, Object, object_of, objects_of, object_at}
use Rattle.runs.specs.Run.{Verdict}
use Rattle.runs.specs.Run.{verdict_of, Ran, begun, ran}
use Rattle.runs.specs.Waits.{Stalls, Blocks}
use Rattle.runs.proofs.Waits.{object_eight}
use Rattle.runs.proofs.Named.{bad_number, unknown, not_waiting_lem, not_running_lem, names_start, stalls, blocks, no_object_lem, no_delta_lem}
use Rattle.runs.proofs.Runs.{ran_started, ran_unnamed}
use Rattle.runs.proofs.Stops.{Stops, stops, ran_past, ran_long}
use Rattle.reading.specs.Decision.{decision_of}
use Rattle.scoreboard.specs.Answers.{objects_in, ran_answer, Result, refused_result, order_for, bytes_order_for, order_of, bytes_order_of}
use Rattle.scoreboard.specs.Claims.{TurnedAway, Began, LeadsTo, Claims, bytes_decision, Claimed, BytesClaimed, AllClaimed}
use Rattle.scoreboard.proofs.ByOrder.{by_order, by_bytes_order}

-- every delta in play of an object of a batch is one of the eight
abbrev Eight : List Object → Type 0
Eight objects = (k : ℕ) (d : Delta) → Memᴰ d (object_at objects k).in_play → d.index < 8

eight_cons : (o : Object) (os : List Object) → ((d : Delta) → Memᴰ d o.in_play → d.index < 8) → Eight os → Eight (o ∷ os)
eight_cons o os h t zero = h
eight_cons o os h t (suc k) = t k

objects_eight : (all cs : List Command) → Eight (objects_of all cs)
unfolding objects_of
objects_eight all [] = λ k d m. absurd (Memᴰ.not-nil m)
objects_eight all (c ∷ cs) =
    by_cond Eight (eqb c.kind 7) _ (objects_of all cs)
    (λ _. eight_cons (object_of c.head (command_number all c.vfe).head) (objects_of all cs) (object_eight _ _ _ _ _ _ _ _) (objects_eight all cs)) (λ _. objects_eight all cs)

module _ (target : Target) (batch run records states filled : List ℕ) where
  abbrev Of : Scanned → Result (List ℕ) → Type 0
  Of decision g = Claims target batch run records states filled decision g

  -- a refusal
  claims_refused : (decision : Scanned) (m p : ℕ) → 0 < m → m < 21
      → LeadsTo target batch run records states filled decision (refused_result records states m p) decision → TurnedAway m ⊎ (m ≡ 20) → (m ≡ 20 → (length states < length (objects_in target batch)) × (p ≡ 0))
      → Of decision (refused_result records states m p)
  claims_refused decision m p l h leads which few =
      record {
        cases = inl which;
        last = omega arith;
        leads = leads;
        refused = λ _. (refl, refl);
        short = few;
        room = λ g. absurd (no g);
        records_filled = λ g. absurd (no g);
        passed = λ g n q. absurd (no g);
        kept = λ g. absurd (no g);
        end = λ z. absurd (omega arith);
        bad = λ z. absurd (omega arith);
        unknown = λ z. absurd (omega arith);
        not_waiting = λ z. absurd (omega arith);
        not_running = λ z. absurd (omega arith);
        start = λ z. absurd (omega arith);
        stalls = λ z. absurd (omega arith);
        blocks = λ z. absurd (omega arith);
        no_object = λ _. refl;
        no_delta = λ _. refl;
        started = λ g k q n. absurd (no g);
        past = λ i q. refl;
        long = refl;
      }
    where
      no : Began target batch run records states filled decision (refused_result records states m p) → ⊥
      no (inl z) = omega arith
      no (inr z) = omega arith

  claims_batch : (m p : ℕ) → TurnedAway m → Of (Stopped m p) (refused_result records states m p)
  claims_batch m p (inl t) = let l = t.0 in let h = t.1 in claims_refused (Stopped m p) m p (omega arith) (omega arith) (refl, inl t) (inl (inl t)) (λ z. absurd (omega arith))
  claims_batch m p (inr e) = claims_refused (Stopped m p) m p (omega arith) (omega arith) (refl, inr e) (inl (inr e)) (λ z. absurd (omega arith))

  claims_short : (c d o : ℕ) → length states < length (objects_in target batch) → Of (Ended c d o) (refused_result records states 20 0)
  claims_short c d o q = claims_refused (Ended c d o) 20 0 (omega arith) (omega arith) (inl refl) (inr refl) (λ _. (q, refl))

  -- a run
  module _ (room : length (objects_in target batch) ≤ length states) where
    abbrev objects : List Object
    objects = objects_in target batch

    abbrev r : Ran
    r = ran objects run states

    s : Stops objects run 0 (begun (length objects) states) r
    s = stops objects run 0 (begun (length objects) states)

    at_place : s.at ≡ r.position
    at_place = omega (arith, s.place)

    abbrev met : ℕ → List ℕ
    met n = (ran objects (take n run) states).states

    abbrev event : ℕ
    event = get_or run r.position 0

    abbrev before : List ℕ
    before = met r.position

    -- the event that stopped it
    module _ (l : 0 < r.verdict.number) where
      bad_event : (r.position < length run) × (r.verdict ≡ verdict_of objects before event)
      bad_event = subst (λ (n : ℕ). (n < length run) × (r.verdict ≡ verdict_of objects (met n) (get_or run n 0))) at_place (s.bad (λ e. omega arith))

      number_is : (verdict_of objects before event).number ≡ r.verdict.number
      number_is = sym (ap (λ (v : Verdict). v.number) bad_event.1)

      within : (20 < r.verdict.number) × (r.verdict.number < 26)
      within = subst (λ (n : ℕ). (20 < n) × (n < 26)) number_is (bad_number objects before event (omega (arith, number_is)))

      named_24 : r.verdict.number ≡ 24 → Stalls objects before (event / 2) r.verdict.object
      named_24 z = subst⁻¹ (λ (v : Verdict). Stalls objects before (event / 2) v.object) bad_event.1 (stalls objects before event (number_is ∙ z))

      named_25 : r.verdict.number ≡ 25 → Blocks objects before (event / 2) r.verdict.object r.verdict.delta
      named_25 z =
          let cs = (reading_of target batch).passed in
          subst⁻¹ (λ (v : Verdict). Blocks objects before (event / 2) v.object v.delta) bad_event.1
          (blocks objects before event (objects_eight cs cs (event / 2)) (number_is ∙ z))

      object_none : r.verdict.number < 24 → r.verdict.object ≡ 0
      object_none z = subst⁻¹ (λ (v : Verdict). v.object ≡ 0) bad_event.1 (no_object_lem objects before event (subst⁻¹ (λ (n : ℕ). n < 24) number_is z))

      delta_none : r.verdict.number < 25 → r.verdict.delta ≡ 0
      delta_none z = subst⁻¹ (λ (v : Verdict). v.delta ≡ 0) bad_event.1 (no_delta_lem objects before event (subst⁻¹ (λ (n : ℕ). n < 25) number_is z))

    -- the number is 0, or that of a bad event
    by_number : {C : Type 0} → (r.verdict.number ≡ 0 → C) → (0 < r.verdict.number → C) → C
    by_number none some = by_test (eqb r.verdict.number 0) (λ e. none (eqb-true _ 0 e)) (λ e. some (let n = eqb-false _ 0 e in above r.verdict.number n))
      where
        above : (n : ℕ) → (n ≡ 0 → ⊥) → 0 < n
        above zero h = absurd (h refl)
        above (suc n) h = omega arith

    -- no number of a run is a refusal's
    no_refusal : TurnedAway r.verdict.number ⊎ (r.verdict.number ≡ 20) → ⊥
    no_refusal (inl (inl t)) = let l = t.0 in let h = t.1 in omega (arith, (within (omega arith)).0)
    no_refusal (inl (inr e)) = omega (arith, (within (omega arith)).0)
    no_refusal (inr e) = omega (arith, (within (omega arith)).0)

    claims_ran : (c d o : ℕ) → Of (Ended c d o) (record { answer = ran_answer r.verdict r.position; records = filled; states = r.states })
    claims_ran c d o =
        record {
          cases = by_number (λ z. inr (inl z)) (λ l. inr (inr (within l).0));
          last = by_number (λ z. omega arith) (λ l. omega (arith, (within l).1));
          leads = by_number (λ z. inr (inl z)) (λ l. inr (inr (within l).0));
          refused = λ x. absurd (no_refusal x);
          short = λ z. absurd (omega (arith, (within (omega arith)).0));
          room = λ g. room;
          records_filled = λ _. refl;
          passed = λ g n q. s.passed n (omega (arith, at_place));
          kept = λ g. s.kept ∙ ap met at_place;
          end = λ z. sym at_place ∙ s.end z;
          bad = λ z. ((bad_event (omega arith)).0, number_is (omega arith));
          unknown = λ z. unknown objects before event (number_is (omega arith) ∙ z);
          not_waiting = λ z. not_waiting_lem objects before event (number_is (omega arith) ∙ z);
          not_running = λ z. not_running_lem objects before event (number_is (omega arith) ∙ z);
          start = λ z. names_start objects before event (omega (arith, number_is (omega arith)));
          stalls = λ z. named_24 (omega arith) z;
          blocks = λ z. named_25 (omega arith) z;
          no_object = λ z. by_number (λ e. (ran_unnamed objects run 0 (begun (length objects) states) e).0) (λ l. object_none l z);
          no_delta = λ z. by_number (λ e. (ran_unnamed objects run 0 (begun (length objects) states) e).1) (λ l. delta_none l z);
          started = λ g k q n. ran_started objects run states k q n;
          past = λ i q. ran_past objects run states i q;
          long = ran_long objects run states room;
        }

-- for a known chip
module _ (target : Target) (batch run records states : List ℕ) where
  claimed_for : Claims target batch run records states (recorded set target batch records) (decision_of target (length records) batch) (order_for target batch run records states)
  unfolding order_for
  claimed_for =
      let f = recorded set target batch records in
      by_order set target (length records) batch run records states (Of target batch run records states f) (claims_batch target batch run records states f)
      (claims_short target batch run records states f) (λ c d o room. claims_ran target batch run records states f room c d o)

  bytes_claimed_for : Claims target (dwords_of batch) (dwords_of run) records states (recorded put_le target (dwords_of batch) records)
      (bytes_decision target batch run records) (bytes_order_for target batch run records states)
  bytes_claimed_for =
      let b = dwords_of batch in
      let e = dwords_of run in
      let f = recorded put_le target b records in
      by_bytes_order target batch run records states (Of target b e records states f) (claims_batch target b e records states f)
      (claims_short target b e records states f) (λ c d o room. claims_ran target b e records states f room c d o)

module _ (chip capacity : ℕ) (batch run records states : List ℕ) where
  -- LAW: the dword entry
  pub claimed : Claimed chip capacity batch run records states
  unfolding order_of
  claimed =
      let given : Chip → Result (List ℕ) = λ c. order_for (chips.target_of c capacity) batch run records states in
      by_either chip _ _ (on_none (refused_result records states) given chip)
      (λ c n. subst (Claims (chips.target_of c capacity) batch run records states (recorded set (chips.target_of c capacity) batch records) (decision_of (chips.target_of c capacity) (length records) batch))
      (sym (on_named (refused_result records states) given chip c n))
      (claimed_for (chips.target_of c capacity) batch run records states))

  -- LAW: the byte entry
  pub bytes_claimed : BytesClaimed chip capacity batch run records states
  unfolding bytes_order_of
  bytes_claimed =
      let given : Chip → Result (List ℕ) = λ c. bytes_order_for (chips.target_of c capacity) batch run records states in
      by_either chip _ _ (on_none (refused_result records states) given chip)
      (λ c n. subst (Claims (chips.target_of c capacity) (dwords_of batch) (dwords_of run) records states (recorded put_le (chips.target_of c capacity) (dwords_of batch) records) (bytes_decision (chips.target_of c capacity) batch run records))
      (sym (on_named (refused_result records states) given chip c n))
      (bytes_claimed_for (chips.target_of c capacity) batch run records states))

pub all_claimed : AllClaimed
all_claimed chip capacity batch run records states = (claimed chip capacity batch run records states, bytes_claimed chip capacity batch run records states)
