-- The core of the order check, and each entry from it. Assumes nothing.
use mathlib.Core.Path.{◌≡◌, refl, sym, ap, ap₂, subst, ◌∙◌}
use mathlib.Core.Bool.{Bool, true, false, cond}
use mathlib.Core.List.{List}
use Prim.Native.Nat.{ℕ, ◌*◌, ◌/◌, ◌%◌, ◌<◌, ◌≤◌}
use native.Mathlib.Omega.{arith}
use lib.Dec.{ltb}
use lib.ListN.{length, set}
use borrow.Author.Tests.{eq-eqb, ne_eqb, lt-ltb, le-ltb}
use Rattle.chips.specs.declared.Chip.{Chip}
use Rattle.chips.specs.declared.Refusal.{Refusal}
use Rattle.chips.specs.declared.Target.{Target}
use Rattle.chips.specs.Chips as chips
use Rattle.chips.specs.Chips.{named_by}
use Rattle.chips.proofs.Chips.{chip_unknown, chip_known}
use Rattle.words.specs.Dwords.{dwords_of, put_le, Buffer, lent_buffer, put_in}
use Rattle.words.proofs.Dwords.{held_bytes}
use Rattle.command.specs.Order.{Command}
use Rattle.reading.specs.Decision.{Scanned, Ended}
use Rattle.reading.specs.Reading.{reading_of}
use Rattle.reading.specs.Decision.{decided, decision_of}
use Rattle.records.specs.Records.{recorded}
use Rattle.reading.proofs.Decisions.{by_refusal, by_success, fits_limit, fits_records, fits_commands, fits_objects, map_decided}
use Rattle.records.proofs.Buffers.{written_view, written_items}
use Rattle.reading.proofs.Counts.{passed_count}
use Rattle.reading.proofs.Vfes.{under_vfe}
use Rattle.records.proofs.Slots.{written_length}
use Rattle.objects.specs.Objects.{Object}
use Rattle.objects.specs.Recorded.{Records, Numbered, objects_recorded}
use Rattle.objects.proofs.RecordedObjects.{objects_count, recorded_objects, recorded_numbers}
use Rattle.std.specs.Prelude as prelude
use Rattle.reading.specs.declared.Extent.{Extent}
use Rattle.reading.specs.declared.Refused as reading
use Rattle.reading.specs.Decision.{found}
use Rattle.runs.specs.declared.Stopped as runs
use Rattle.runs.specs.Run.{Ran, run_from, begun, ran, no_fault, numbered, ended}
use Rattle.scoreboard.specs.declared.Answer.{Answer}
use Rattle.scoreboard.specs.declared.Failure.TheVariants as failure
use Rattle.scoreboard.specs.Answers.{objects_in, refused_answer, ran_answer, failure_answer, Result, refused_result, ran_result, accepted_result, order_in, buffer_order_of, order_for, bytes_order_for, order_of, bytes_order_of}

-- an accepted batch has as many objects as the first pass counts
module _ (target : Target) (room : ℕ) (b : List ℕ) (w : Scanned) (c d o : ℕ) (ew : w ≡ decision_of target room b) (e : w ≡ Ended c d o) where
  abbrev cs : List Command
  cs = (reading_of target b).passed

  objects_are : length (objects_in target b) ≡ o
  objects_are = sym (objects_count cs cs) ∙ fits_objects target room b w c d o ew e

  -- the record buffer is filled
  module _ (r r' : List ℕ) (er : room ≡ length r) (ef : r' ≡ recorded set target b r) where
    abbrev n : ℕ
    n = length cs

    room_left : 16 * n ≤ length r
    room_left = subst (λ (x : ℕ). 16 * n ≤ x) er (fits_records target room b w c d o ew e)

    commands_are : n ≡ c
    commands_are = fits_commands target room b w c d o ew e

    filled_room : 16 * c ≤ length r'
    filled_room =
        let l : length r' ≡ length r = ap length ef ∙ written_length cs 0 r in
        let x = room_left in
        let y = commands_are in omega arith

    filled_limit : c ≤ 16384
    filled_limit = let x = passed_count target b in let y = fits_limit target room b w c d o ew e in let z = commands_are in omega arith

    recorded_are : objects_recorded r' c ≡ objects_in target b
    recorded_are = ap₂ objects_recorded ef (sym commands_are) ∙ recorded_objects cs r (under_vfe target b) room_left

    filled_numbers : Numbered r' c
    filled_numbers =
        subst (λ (x : List ℕ). Numbered x c) (sym ef) (subst (Numbered (recorded set target b r)) commands_are (recorded_numbers target b r room_left))

    filled_records : Records r' c
    filled_records = record { room = filled_room; limit = filled_limit }

    filled_count : o ≡ length (objects_recorded r' c)
    filled_count = sym objects_are ∙ ap length (sym recorded_are)

    filled_run : (run states s' : List ℕ) → s' ≡ begun o states → run_from (objects_recorded r' c) run 0 s' ≡ ran (objects_in target b) run states
    filled_run run states s' es =
        ap₂ (λ (x : List Object) (s : List ℕ). run_from x run 0 s) recorded_are (es ∙ ap (λ (m : ℕ). begun m states) (sym objects_are))

-- what a run that has begun answers
abbrev pub run_answer : prelude.Result ℕ runs.Stopped → Answer
run_answer (prelude.Ok events) = ran_answer no_fault events
run_answer (prelude.Err s) = ran_answer (numbered s.fault) s.position

-- The core: L is the count of the record buffer's words, as the code has it, and x what the code finds of the batch.
module _ {E : Type 0} (stored : List E → ℕ → ℕ → List E) (target : Target) (b run : List ℕ) (r : Buffer E) (states : List ℕ) (L : ℕ) (el : L ≡ length r.view)
    (x : prelude.Result Extent reading.Refused) (ex : found x ≡ decision_of target L b) where
  abbrev d : List ℕ
  d = r.view

  decides : found x ≡ decision_of target (length d) b
  decides = ex ∙ ap (λ (n : ℕ). decision_of target n b) el

  abbrev accepted : ℕ → ℕ → Result (Buffer E)
  accepted c d = accepted_result (put_in stored) target (length r.view) b run r states

  pub core_refused : (f : reading.Refused) → x ≡ prelude.Err f → record { answer = failure_answer (failure.Refused f); records = r; states = states } ≡ buffer_order_of stored target b run r states
  unfolding order_in
  core_refused f e = by_refusal (refused_result r states) accepted target (length d) b (found x) decides _ _ _ (ap found e) refl

  module _ (e : Extent) (ok : x ≡ prelude.Ok e) where
    ended_at : found x ≡ Ended e.commands e.dwords e.objects
    ended_at = ap found ok

    count : length (objects_in target b) ≡ e.objects
    count = objects_are target L b (found x) e.commands e.dwords e.objects ex ended_at

    filled_view : (r' : Buffer E) → r' ≡ recorded (put_in stored) target b r → r'.view ≡ recorded set target b d
    filled_view r' er = ap (λ (y : Buffer E). y.view) er ∙ written_view stored (reading_of target b).passed 0 r

    -- what the records hold once they are filled
    module _ (r' : Buffer E) (er : r' ≡ recorded (put_in stored) target b r) where
      pub records_are : Records r'.view e.commands
      records_are = filled_records target L b (found x) e.commands e.dwords e.objects ex ended_at d r'.view el (filled_view r' er)

      pub numbers_are : Numbered r'.view e.commands
      numbers_are = filled_numbers target L b (found x) e.commands e.dwords e.objects ex ended_at d r'.view el (filled_view r' er)

      pub count_is : e.objects ≡ length (objects_recorded r'.view e.commands)
      count_is = filled_count target L b (found x) e.commands e.dwords e.objects ex ended_at d r'.view el (filled_view r' er)

    pub core_short : length states < e.objects → record { answer = refused_answer 20 0; records = r; states = states } ≡ buffer_order_of stored target b run r states
    unfolding order_in
    core_short h =
        let l : length states < length (objects_in target b) = let z = count in omega arith in
        by_success (refused_result r states) accepted target (length d) b (found x) decides e.commands e.dwords e.objects _ ended_at
        (simp (lt-ltb (length states) (length (objects_in target b)) l))

    pub core_ran : (a : Answer) (end : prelude.Result ℕ runs.Stopped) (r' : Buffer E) (s s' : List ℕ) → e.objects ≤ length states → r' ≡ recorded (put_in stored) target b r
        → s ≡ begun e.objects states → ended end s' ≡ run_from (objects_recorded r'.view e.commands) run 0 s → a ≡ run_answer end
        → record { answer = a; records = r'; states = s' } ≡ buffer_order_of stored target b run r states
    unfolding order_in
    core_ran a end r' s s' h er es ee ea =
        let l : length (objects_in target b) ≤ length states = let z = count in omega arith in
        let f = ee ∙ filled_run target L b (found x) e.commands e.dwords e.objects ex ended_at d r'.view el (filled_view r' er) run states s es in
        by_success (refused_result r states) accepted target (length d) b (found x) decides e.commands e.dwords e.objects _ ended_at
        (ap (λ (y : Answer). record { answer = y; records = r'; states = s' }) ea
        ∙ go end
        ∙ ap₂ (λ (y : Buffer E) (z : Ran). record { answer = ran_answer z.verdict z.position; records = y; states = z.states }) er f
        ∙ simp (le-ltb (length states) (length (objects_in target b)) l))
      where
        go : (z : prelude.Result ℕ runs.Stopped) → ◌≡◌ {A = Result (Buffer E)} (record { answer = run_answer z; records = r'; states = s' })
            (record { answer = ran_answer (ended z s').verdict (ended z s').position; records = r'; states = (ended z s').states })
        go (prelude.Ok m) = refl
        go (prelude.Err m) = refl

-- a result with another record buffer
abbrev with_records : {B C : Type 0} → (B → C) → Result B → Result C
with_records f x = record { answer = x.answer; records = f x.records; states = x.states }

-- what is seen of a record buffer
module _ {B C : Type 0} (put : B → ℕ → ℕ → B) (put' : C → ℕ → ℕ → C) (f : B → C) (target : Target) (room : ℕ) (b run : List ℕ) (r : B) (states : List ℕ)
    (h : f (recorded put target b r) ≡ recorded put' target b (f r)) where
  seen_ran : with_records f (ran_result put target room b run r states) ≡ ran_result put' target room b run (f r) states
  seen_ran =
      let x = ran (objects_in target b) run states in
      ap (λ (y : C). record { answer = ran_answer x.verdict x.position; records = y; states = x.states }) h

  seen_accepted : with_records f (accepted_result put target room b run r states) ≡ accepted_result put' target room b run (f r) states
  seen_accepted = go (ltb (length states) (length (objects_in target b)))
    where
      go : (t : Bool) → with_records f (cond t (refused_result r states 20 0) (ran_result put target room b run r states))
          ≡ cond t (refused_result (f r) states 20 0) (ran_result put' target room b run (f r) states)
      go true = refl
      go false = seen_ran

  seen_order : with_records f (order_in put target room b run r states) ≡ order_in put' target room b run (f r) states
  unfolding order_in
  seen_order =
      map_decided (with_records f) (refused_result r states) (λ c d. accepted_result put target room b run r states) target room b
      ∙ ap (λ (y : Result C). decided (refused_result (f r) states) (λ c d. y) target room b) seen_accepted

-- each entry from the core
module _ (target : Target) (b run r states : List ℕ) where
  -- over dwords
  pub dwords_order : (a : Answer) (r' s' : List ℕ)
      → record { answer = a; records = lent_buffer (λ (l : List ℕ). l) r'; states = s' } ≡ buffer_order_of set target b run (lent_buffer (λ (l : List ℕ). l) r) states
      → record { answer = a; records = r'; states = s' } ≡ order_for target b run r states
  unfolding order_for
  dwords_order a r' s' e =
      ap (with_records (λ (x : Buffer ℕ). x.items)) e
      ∙ seen_order (put_in set) set (λ (x : Buffer ℕ). x.items) target (length r) b run (lent_buffer (λ (l : List ℕ). l) r) states
      (written_items set (reading_of target b).passed 0 (lent_buffer (λ (l : List ℕ). l) r))

  -- over bytes: 17 of the batch
  pub odd_batch : (a : Answer) → (length b % 4 ≡ 0 → ⊥) → a ≡ refused_answer 17 (length b / 4) → record { answer = a; records = r; states = states } ≡ bytes_order_for target b run r states
  unfolding bytes_order_for
  odd_batch a q e = ap (λ (x : Answer). record { answer = x; records = r; states = states }) e ∙ simp (ne_eqb (length b % 4) 0 q)

  module _ (p : length b % 4 ≡ 0) where
    -- 17 of the run
    pub odd_run : (a : Answer) → (length run % 4 ≡ 0 → ⊥) → a ≡ refused_answer 17 (length run / 4) → record { answer = a; records = r; states = states } ≡ bytes_order_for target b run r states
    unfolding bytes_order_for
    odd_run a q e = ap (λ (x : Answer). record { answer = x; records = r; states = states }) e ∙ simp (eq-eqb (length b % 4) 0 p, ne_eqb (length run % 4) 0 q)

    -- whole dwords
    pub bytes_order : (a : Answer) (r' s' : List ℕ) → length run % 4 ≡ 0
        → record { answer = a; records = lent_buffer dwords_of r'; states = s' } ≡ buffer_order_of put_le target (dwords_of b) (dwords_of run) (lent_buffer dwords_of r) states
        → record { answer = a; records = r'; states = s' } ≡ bytes_order_for target b run r states
    unfolding bytes_order_for
    bytes_order a r' s' q e =
        ap (with_records (λ (x : Buffer ℕ). x.items)) (e ∙ ap (λ (n : ℕ). order_in (put_in put_le) target n (dwords_of b) (dwords_of run) (lent_buffer dwords_of r) states) (sym (held_bytes r)))
        ∙ seen_order (put_in put_le) put_le (λ (x : Buffer ℕ). x.items) target (length r / 4) (dwords_of b) (dwords_of run) (lent_buffer dwords_of r) states
        (written_items put_le (reading_of target (dwords_of b)).passed 0 (lent_buffer dwords_of r))
        ∙ simp (eq-eqb (length b % 4) 0 p, eq-eqb (length run % 4) 0 q)

-- what an entry shows, by what its chip number names: v is that
module _ (chip capacity : ℕ) (b run r states : List ℕ) (v : prelude.Result Chip Refusal) (e : v ≡ named_by chip) where
  module _ (f : Refusal) (u : v ≡ prelude.Err f) (a : Answer) (q : a ≡ refused_answer 18 0) where
    pub unknown_order : record { answer = a; records = r; states = states } ≡ order_of chip capacity b run r states
    unfolding order_of
    unknown_order =
        chip_unknown (refused_result r states) (λ c. order_for (chips.target_of c capacity) b run r states) chip v e _ f u
        (ap (λ (x : Answer). record { answer = x; records = r; states = states }) q)

    pub unknown_bytes_order : record { answer = a; records = r; states = states } ≡ bytes_order_of chip capacity b run r states
    unfolding bytes_order_of
    unknown_bytes_order =
        chip_unknown (refused_result r states) (λ c. bytes_order_for (chips.target_of c capacity) b run r states) chip v e _ f u
        (ap (λ (x : Answer). record { answer = x; records = r; states = states }) q)

  module _ (c : Chip) (k : v ≡ prelude.Ok c) (g : Result (List ℕ)) where
    pub known_order : g ≡ order_for (chips.target_of c capacity) b run r states → g ≡ order_of chip capacity b run r states
    unfolding order_of
    known_order q = chip_known (refused_result r states) (λ c. order_for (chips.target_of c capacity) b run r states) chip v e g c k q

    pub known_bytes_order : g ≡ bytes_order_for (chips.target_of c capacity) b run r states → g ≡ bytes_order_of chip capacity b run r states
    unfolding bytes_order_of
    known_bytes_order q = chip_known (refused_result r states) (λ c. bytes_order_for (chips.target_of c capacity) b run r states) chip v e g c k q
