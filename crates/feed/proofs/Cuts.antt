-- Every way of cutting a batch gives the whole batch's answer and records. Assumes nothing.
use mathlib.Core.Path.{◌≡◌, refl, sym, ap, ap₂, subst, ◌∙◌}
use mathlib.Core.Bool.{Bool, true, false, cond, ◌&&◌, ◌||◌}
use Prim.Native.Nat.{ℕ, zero, suc, ◌+◌, ◌-◌, ◌≤◌}
use native.Mathlib.Omega.{arith}
use mathlib.Core.List.{List, [], ◌∷◌, ◌++◌}
use lib.ListN.{length, take, set, length-append, length-take}
use lib.Seq.{take_all}
use lib.Dec.{ltb, leb, eqb}
use borrow.Author.Tests.{lt-ltb, ltb-true, ltb-false, le-leb, eq-eqb, ne_eqb, eqb-true}
use Rattle.laws.proofs.Choices.{by_test}
use Rattle.chips.specs.declared.Chip.{Chip}
use Rattle.chips.specs.declared.Target.{Target}
use Rattle.command.specs.declared.State.{State}
use Rattle.command.specs.Order.{Command, stands_since, count_loaded, state_in_force, vfe_in_force, object_count, state_of, state_after}
use Rattle.command.proofs.Order.{after_chip, state_chip, state_capacity}
use Rattle.reading.specs.Reading.{Reading, reading_of}
use Rattle.reading.specs.Decision.{at_stop, decided}
use Rattle.reading.proofs.Decided.{by_decided}
use Rattle.reading.proofs.Decisions.{map_decided}
use Rattle.records.specs.Records.{recorded}
use Rattle.batch.specs.declared.Answer.{Answer}
use Rattle.batch.specs.Answers.{refused_answer, accepted_answer, recorded_in, answer_for, records_for}
use Rattle.progress.specs.declared.Progress.{Progress}
use Rattle.progress.specs.Steps.{Stage, stage, stage_after, stop_of, at_end}
use Rattle.progress.specs.Fitting.{written_fit}
use Rattle.progress.specs.Sound.{Sound}
use Rattle.progress.proofs.Runs.{Run, run}
use Rattle.progress.proofs.Stages.{stage_append, stage_run, run_kept, run_commands}
use Rattle.progress.proofs.Fitted.{written_length, written_room}
use Rattle.progress.proofs.Fold.{beginning_of, read_by, fold_reading, fold_sound}
use Rattle.progress.proofs.Stops.{stop_read, stop_kept}
use Rattle.feed.specs.Feeding.{fresh, resumed, carried_by, Left, left, left_by, chunk_taken, answer_at, is_stop, read_of, goes_on, usable}
use Rattle.feed.specs.Counting.{dwords_after}
use Rattle.feed.specs.Claims.{kept_in}
use Rattle.feed.proofs.Counting.{take_chunk_lem}
use Rattle.feed.proofs.Within.{within}

-- how many dwords have come
by_limit : (n m : ℕ) (t : Bool) → ltb 16384 n ≡ t → cond (ltb 16384 (cond t 16385 n + m)) 16385 (cond t 16385 n + m) ≡ cond (ltb 16384 (n + m)) 16385 (n + m)
by_limit n m true e =
    let q = ltb-true 16384 n e in
    simp (lt-ltb 16384 (16385 + m) (omega arith), lt-ltb 16384 (n + m) (omega arith))
by_limit n m false e = refl

come_is : (n : ℕ) → dwords_after 0 n ≡ cond (ltb 16384 n) 16385 n
come_is n = let e : 0 + n ≡ n = omega arith in ap (λ (m : ℕ). cond (ltb 16384 m) 16385 m) e

pub come_append : (n m : ℕ) → dwords_after (dwords_after 0 n) m ≡ dwords_after 0 (n + m)
come_append n m = ap (λ (x : ℕ). dwords_after x m) (come_is n) ∙ by_limit n m (ltb 16384 n) refl ∙ sym (come_is (n + m))

by_over : (n : ℕ) (t : Bool) → ltb 16384 n ≡ t → ltb 16384 (cond t 16385 n) ≡ t
by_over n true e = lt-ltb 16384 16385 (omega arith)
by_over n false e = e

pub come_over : (n : ℕ) → ltb 16384 (dwords_after 0 n) ≡ ltb 16384 n
come_over n = ap (ltb 16384) (come_is n) ∙ by_over n (ltb 16384 n) refl

by_left : (n : ℕ) (t : Bool) → ltb 16384 n ≡ t → 16384 - cond t 16385 n ≡ 16384 - n
by_left n true e = let q = ltb-true 16384 n e in omega arith
by_left n false e = refl

pub come_left : (n : ℕ) → 16384 - dwords_after 0 n ≡ 16384 - n
come_left n = ap (λ (x : ℕ). 16384 - x) (come_is n) ∙ by_left n (ltb 16384 n) refl

by_few : (n : ℕ) (t : Bool) → ltb 16384 n ≡ t → cond t 16385 n ≤ 16385
by_few n true e = omega arith
by_few n false e = let q = ltb-false 16384 n e in omega arith

pub come_few : (n : ℕ) → dwords_after 0 n ≤ 16385
come_few n = subst (λ (x : ℕ). x ≤ 16385) (sym (come_is n)) (by_few n (ltb 16384 n) refl)

by_read : (n m : ℕ) (t : Bool) → ltb 16384 n ≡ t → m ≤ 16384 → m ≤ n → m ≤ read_of (cond t 16385 n)
by_read n m true e p q = p
by_read n m false e p q = simp e q

come_read : (b : List ℕ) → length (take 16384 b) ≤ read_of (dwords_after 0 (length b))
come_read b =
    let z = length-take 16384 b in
    subst (λ (x : ℕ). length (take 16384 b) ≤ read_of x) (sym (come_is (length b))) (by_read (length b) (length (take 16384 b)) (ltb 16384 (length b)) refl (omega arith) (omega arith))

pub take-append : (n : ℕ) (x y : List ℕ) → take n (x ++ y) ≡ take n x ++ take (n - length x) y
take-append zero [] y = let e : 0 - 0 ≡ 0 = omega arith in ap (λ (m : ℕ). take m y) (sym e)
take-append (suc n) [] y = let e : suc n - 0 ≡ suc n = omega arith in ap (λ (m : ℕ). take m y) (sym e)
take-append zero (a ∷ x) y = let e : 0 - suc (length x) ≡ 0 = omega arith in ap (λ (m : ℕ). take m y) (sym e)
take-append (suc n) (a ∷ x) y =
    let e : suc n - suc (length x) ≡ n - length x = omega arith in ap (◌∷◌ a) (take-append n x y ∙ ap (λ (m : ℕ). take n x ++ take m y) (sym e))

after_capacity : (k : ℕ) (h : List ℕ) (st : State) → (state_after k h st).capacity ≡ st.capacity
unfolding state_after
after_capacity k h st = refl

-- the carried state holds all of a reading but what the call names
module _ (target : Target) where
  resumed_carried : (n : ℕ) (p : Progress) → p.st.chip ≡ target.chip → p.st.capacity ≡ target.capacity → resumed target (carried_by n p) ≡ p
  resumed_carried n p ec ep =
      let st = p.st in
      ap₂ (λ (c : Chip) (x : ℕ). record {
        st = record {
          chip = c;
          capacity = x;
          earlier_vfe = st.earlier_vfe;
          vfe_in_force = st.vfe_in_force;
          vfe_dword1 = st.vfe_dword1;
          vfe_dword2 = st.vfe_dword2;
          vfe_dword3 = st.vfe_dword3;
          vfe_dword4 = st.vfe_dword4;
          count_loaded = st.count_loaded;
          standing = st.standing;
          commands = st.commands;
          objects = st.objects;
        };
        own = p.own;
        place = p.place;
        got = p.got;
        stop = p.stop;
      }) (sym ec) (sym ep)

  -- the reading from the start, of the dwords that are read
  abbrev first : List ℕ → List ℕ
  first b = take 16384 b

  abbrev ran : List ℕ → Run
  ran b = run (beginning_of target) (first b)

  ran_chip : (b : List ℕ) → (ran b).progress.st.chip ≡ target.chip
  ran_chip b = run_kept (λ (st : State). st.chip) after_chip (first b) (beginning_of target) ∙ state_chip target []

  ran_capacity : (b : List ℕ) → (ran b).progress.st.capacity ≡ target.capacity
  ran_capacity b = run_kept (λ (st : State). st.capacity) after_capacity (first b) (beginning_of target) ∙ state_capacity target []

  module _ (r : List ℕ) where
    abbrev reached : List ℕ → Stage
    reached b = stage_after (stage (beginning_of target) r) (first b)

    reached_run : (b : List ℕ) → reached b ≡ stage (ran b).progress (written_fit (ran b).passed 0 r)
    unfolding state_of
    reached_run b = stage_run (first b) (beginning_of target) r

    -- what is left after the dwords b, however they were cut
    pub record After (b : List ℕ) (w : Left) : Type 0 where
      pub unanswered : w.carried.answered ≡ 0
      pub dwords : w.carried.dwords ≡ dwords_after 0 (length b)
      pub stage_is : stage (resumed target w.carried) w.records ≡ reached b

    pub after_none : After [] (left fresh r)
    unfolding stage_after state_of stands_since count_loaded state_in_force vfe_in_force object_count
    after_none = record { unanswered = refl; dwords = refl; stage_is = refl }

    module _ (b : List ℕ) (w : Left) (h : After b w) where
      progress_is : resumed target w.carried ≡ (ran b).progress
      progress_is = ap (λ (s : Stage). s.progress) (h.stage_is ∙ reached_run b)

      pub records_are : w.records ≡ written_fit (ran b).passed 0 r
      records_are = ap (λ (s : Stage). s.records) (h.stage_is ∙ reached_run b)

      pub room_is : length w.records ≡ length r
      room_is = ap length records_are ∙ written_length (ran b).passed 0 r

      -- LAW: the carried state is one that can be gone on from
      stop_is : stop_read w.carried.stop ≡ true
      stop_is = ap (λ (p : Progress). stop_read p.stop) progress_is ∙ stop_kept (first b) (beginning_of target) refl

      pub not_unnamed : w.carried.stop ≡ 18 → ⊥
      not_unnamed e = let z : false ≡ true = sym (ap stop_read e) ∙ stop_is in let y : ◌≡◌ {A = ℕ} 0 1 = cc in omega arith

      sound : Sound (length (first b)) (resumed target w.carried)
      sound = subst (λ (p : Progress). Sound (length (first b)) p) (sym progress_is) (fold_sound target (first b))

      both : (x y : Bool) → x ≡ true → y ≡ true → x && y ≡ true
      both x y p q = simp (p, q)

      going : w.carried.stop ≡ 0 → goes_on w.carried ≡ true
      going e =
          let c = w.carried in
          let z = come_read b in
          let y : length (first b) ≤ read_of c.dwords = subst (λ (x : ℕ). length (first b) ≤ read_of x) (sym h.dwords) z in
          let a = sound.come e in
          both _ _ (both _ _ (le-leb (c.place + c.got) (read_of c.dwords) (omega arith)) (le-leb c.order.commands c.place (sound.commands e)))
          (le-leb c.order.objects c.place (sound.objects e))

      or_mid : (x y z u : Bool) → x ≡ false → x || y || z ≡ true → y || u || z ≡ true
      or_mid true y z u p q = let e : ◌≡◌ {A = ℕ} 0 1 = cc in absurd (omega arith)
      or_mid false true z u p q = refl
      or_mid false false true true p q = refl
      or_mid false false true false p q = refl
      or_mid false false false u p q = let e : ◌≡◌ {A = ℕ} 0 1 = cc in absurd (omega arith)

      ended_as : eqb w.carried.stop 0 ≡ false → is_stop w.carried.stop ≡ true
      ended_as e = let n = w.carried.stop in or_mid (eqb n 0) (leb 3 n && leb n 9) (eqb n at_end) (eqb n 18) e stop_is

      pub after_usable : usable w.carried ≡ true
      unfolding usable
      after_usable =
          let c = w.carried in
          both _ _ (both _ _ (eq-eqb c.answered 0 h.unanswered) (le-leb c.dwords 16385 (subst (λ (x : ℕ). x ≤ 16385) (sym h.dwords) (come_few (length b)))))
          (by_test (eqb c.stop 0) (λ t. simp t (going (eqb-true c.stop 0 t))) (λ t. simp t (ended_as t)))

      -- LAW: one chunk more
      module _ (chunk : List ℕ) where
        abbrev s : Stage
        s = stage (resumed target w.carried) w.records

        abbrev next : Stage
        next = stage_after s (take (16384 - w.carried.dwords) chunk)

        next_is : next ≡ reached (b ++ chunk)
        next_is =
            ap (λ (x : Stage). stage_after x (take (16384 - w.carried.dwords) chunk)) h.stage_is
            ∙ sym (stage_append (first b) (take (16384 - w.carried.dwords) chunk) (stage (beginning_of target) r))
            ∙ ap (stage_after (stage (beginning_of target) r))
            (ap (λ (m : ℕ). first b ++ take m chunk) (ap (λ (x : ℕ). 16384 - x) h.dwords ∙ come_left (length b)) ∙ sym (take-append 16384 b chunk))

        next_progress : next.progress ≡ (ran (b ++ chunk)).progress
        next_progress = ap (λ (x : Stage). x.progress) (next_is ∙ reached_run (b ++ chunk))

        left_is : chunk_taken target w.carried chunk w.records ≡ left (carried_by (dwords_after w.carried.dwords (length chunk)) next.progress) next.records
        unfolding chunk_taken
        left_is = ap left_by (take_chunk_lem chunk w.carried.dwords s (subst (λ (x : ℕ). x ≤ 16385) (sym h.dwords) (come_few (length b))))

        after_left : After (b ++ chunk) (left (carried_by (dwords_after w.carried.dwords (length chunk)) next.progress) next.records)
        after_left =
            record {
              unanswered = refl;
              dwords = ap (λ (x : ℕ). dwords_after x (length chunk)) h.dwords ∙ come_append (length b) (length chunk) ∙ ap (dwords_after 0) (sym (length-append b chunk));
              stage_is =
                  ap (λ (p : Progress). stage p next.records)
                  (resumed_carried (dwords_after w.carried.dwords (length chunk)) next.progress
                  (ap (λ (p : Progress). p.st.chip) next_progress ∙ ran_chip (b ++ chunk)) (ap (λ (p : Progress). p.st.capacity) next_progress ∙ ran_capacity (b ++ chunk)))
                  ∙ next_is;
            }

        pub after_chunk_lem : After (b ++ chunk) (chunk_taken target w.carried chunk w.records)
        after_chunk_lem = subst (After (b ++ chunk)) (sym left_is) after_left

      -- LAW: the answer, if these are all the dwords
      abbrev given : Progress → Answer
      given p = at_stop refused_answer accepted_answer (length r) p.st.commands (stop_of p)

      reads : length b ≤ 16384 → given (ran b).progress ≡ at_stop refused_answer accepted_answer (length r) (length (reading_of target b).passed) (reading_of target b).stop
      unfolding state_of
      reads q =
          let e : 0 + length (ran b).passed ≡ length (ran b).passed = omega arith in
          let whole : read_by (ran b) ≡ reading_of target b = ap (λ (l : List ℕ). read_by (run (beginning_of target) l)) (take_all 16384 b q) ∙ fold_reading target b in
          ap (λ (n : ℕ). at_stop refused_answer accepted_answer (length r) n (stop_of (ran b).progress)) (run_commands (first b) (beginning_of target) ∙ e)
          ∙ ap (λ (x : Reading). at_stop refused_answer accepted_answer (length r) (length x.passed) x.stop) whole

      by_length : (t : Bool) → ltb 16384 (length b) ≡ t → cond t (refused_answer 1 0) (given (ran b).progress)
          ≡ cond t (refused_answer 1 0) (at_stop refused_answer accepted_answer (length r) (length (reading_of target b).passed) (reading_of target b).stop)
      by_length true e = refl
      by_length false e = reads (ltb-false 16384 (length b) e)

      pub answer_is : answer_at (length r) w.carried ≡ answer_for target b r
      unfolding answer_at answer_for decided
      answer_is =
          simp (ne_eqb w.carried.stop 18 not_unnamed)
          (ap₂ (λ (n : ℕ) (p : Progress). cond (ltb 16384 n) (refused_answer 1 0) (given p)) h.dwords progress_is
          ∙ ap (λ (t : Bool). cond t (refused_answer 1 0) (given (ran b).progress)) (come_over (length b))
          ∙ by_length (ltb 16384 (length b)) refl)

      -- LAW: the records
      pub kept_are : w.records ≡ written_fit (kept_in target b) 0 r
      kept_are =
          records_are
          ∙ ap (λ (cs : List Command). written_fit cs 0 r) (ap (λ (x : Reading). x.passed) (fold_reading target (first b)) ∙ within target 16384 b)

    -- LAW: after acceptance they are those of the whole batch
    module _ (b : List ℕ) where
      abbrev Both : Type 0
      Both = Answer × List ℕ

      abbrev refusal : ℕ → ℕ → Both
      refusal m p = (refused_answer m p, r)

      abbrev success : ℕ → ℕ → Both
      success c d = (accepted_answer c d, recorded set target b r)

      abbrev Right : Both → Type 0
      Right x = x.0.number ≡ 0 → written_fit (kept_in target b) 0 r ≡ x.1

      kept_all : length b ≤ 16384 → kept_in target b ≡ (reading_of target b).passed
      kept_all q = sym (within target 16384 b) ∙ ap (λ (l : List ℕ). (reading_of target l).passed) (take_all 16384 b q)

      right : Right (decided refusal success target (length r) b)
      right =
          by_decided Right refusal success target (length r) b (λ q e. absurd (omega arith)) (λ m p q s lo hi e. absurd (omega arith)) (λ d q s f e. absurd (omega arith))
          (λ d q s f e. ap (λ (cs : List Command). written_fit cs 0 r) (kept_all q) ∙ written_room (reading_of target b).passed 0 r (omega arith))

      pub accepted_are : (answer_for target b r).number ≡ 0 → written_fit (kept_in target b) 0 r ≡ records_for target b r
      unfolding answer_for records_for recorded_in
      accepted_are e =
          right (ap (λ (a : Answer). a.number) (map_decided (λ (x : Both). x.0) refusal success target (length r) b) ∙ e)
          ∙ map_decided (λ (x : Both). x.1) refusal success target (length r) b
