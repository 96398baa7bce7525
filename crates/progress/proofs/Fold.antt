-- The reading dword by dword is the reading of the whole list. Assumes nothing.
use mathlib.Core.Path.{◌≡◌, refl, sym, ap, ap₂, subst, ◌∙◌}
use mathlib.Core.Bool.{Bool, true, false, cond, not, ◌&&◌}
use Prim.Native.Nat.{ℕ, zero, suc, ◌+◌, ◌<◌, ◌≤◌}
use native.Mathlib.Nat.{add-zero}
use native.Mathlib.Omega.{arith}
use mathlib.Core.List.{List, [], ◌∷◌}
use lib.ListN.{length, drop, length-drop}
use lib.Dec.{T, ltb, leb, eqb}
use borrow.Author.Tests.{lt-ltb, le-ltb, ltb-true, ltb-false, ne_eqb, eqb-true}
use Rattle.laws.proofs.Choices.{by_test}
use Rattle.chips.specs.declared.Target.{Target}
use Rattle.command.specs.declared.State.{State}
use Rattle.command.specs.Kinds.{no_kind, length_field, length_allowed, kind_of, total_of, head_of}
use Rattle.command.specs.Fields.{dword}
use Rattle.command.specs.Order.{Command, state_of, state_after, object_count}
use Rattle.command.proofs.Order.{after_commands, after_objects}
use Rattle.std.specs.Prelude.{Ok, Err}
use Rattle.chips.specs.Refusals.{number_of_refusal}
use Rattle.judge.specs.declared.Fault.{Fault}
use Rattle.chips.specs.declared.Refusal.TheVariants.{UnknownCommand, LengthField, Truncated}
use Rattle.judge.specs.Refusals.{Verdict, refused, no_fault, judge_of, header_verdict, own_verdict}
use Rattle.judge.proofs.Judged.{judge_own, judge_header, total_pos, in_range, fault_number}
use Rattle.reading.specs.Turns.{Last, Next}
use Rattle.reading.specs.Reading.{ended, stopped, Reading, reading, reading_of}
use Rattle.reading.specs.Turns.{turned, turn_of, walk, here}
use Rattle.reading.proofs.Walk.{reading_walk, then, walk_turn}
use Rattle.reading.proofs.Scans.{grown}
use Rattle.progress.specs.declared.Progress.{Progress}
use Rattle.progress.specs.Steps.{none, fault, faulted, passes, judged, between, at_end, after_change, whole, stop_by, stop_of}
use Rattle.progress.specs.Sound.{Sound}
use Rattle.progress.proofs.Runs.{Run, ran, and_then, run, run_from, run_stopped, held, run_refused, run_short, run_command}

-- what is read, if these are all the dwords that come
abbrev pub read_by : Run → Reading
read_by x = reading x.passed (stop_of x.progress)

-- a refusal's number is neither of the two marks of a reading that goes on, or that met END
module _ (m : ℕ) (p : T (leb 3 m && leb m 9)) where
  pub number_on : m ≡ 0 → ⊥
  number_on e = subst (λ (x : ℕ). T (leb 3 x && leb x 9)) e p

  pub number_end : m ≡ at_end → ⊥
  number_end e = subst (λ (x : ℕ). T (leb 3 x && leb x 9)) e p

  stop_fault : (st : State) (at s : ℕ) → stop_of (after_change st at (fault m s)) ≡ stopped m (at + s)
  unfolding stop_by after_change
  stop_fault st at s = simp (ne_eqb m 0 number_on, ne_eqb m at_end number_end)

-- rows 3 and 4 do not see how many dwords are left, and row 5 comes after them
abbrev with_five : Verdict → Bool → Verdict
with_five (Err f) t = Err f
with_five (Ok u) t = cond t (refused Truncated 0) no_fault

rows : (a b t : Bool) → cond a (refused UnknownCommand 0) (cond b (refused LengthField 0) (cond t (refused Truncated 0) no_fault))
    ≡ with_five (cond a (refused UnknownCommand 0) (cond b (refused LengthField 0) no_fault)) t
rows true b t = refl
rows false true t = refl
rows false false t = refl

header_rows : (k d left : ℕ) → header_verdict k d left ≡ with_five (header_verdict k d (total_of k d)) (ltb left (total_of k d))
unfolding header_verdict
header_rows k d left =
    simp (le-ltb (total_of k d) (total_of k d) (omega arith)) (rows (eqb k no_kind) (not (length_allowed k (length_field d))) (ltb left (total_of k d)))

-- what the dwords l come to after st, from a place on: what is read, and what is so of how far it came
pub record Folds (st : State) (at : ℕ) (l : List ℕ) : Type 0 where
  pub reads : read_by (run (between st at) l) ≡ walk l 0 at st
  pub sound : st.commands ≤ at → st.objects ≤ at → Sound (at + length l) (run (between st at) l).progress

sound_stopped : (n : ℕ) (c : Progress) → (c.stop ≡ 0 → ⊥) → Sound n c
sound_stopped n c f = record { come = λ e. absurd (f e); commands = λ e. absurd (f e); objects = λ e. absurd (f e) }

-- END has one dword
end_one : (k d : ℕ) → k ≡ 2 → total_of k d ≡ 1
unfolding total_of
end_one k d e = simp e

module _ (st : State) (at a : ℕ) (ds : List ℕ) where
  abbrev k : ℕ
  k = kind_of st.chip a

  abbrev t : ℕ
  t = total_of (kind_of st.chip a) a

  abbrev l : List ℕ
  l = a ∷ ds

  abbrev h : List ℕ
  h = head_of (kind_of st.chip a) (a ∷ ds)

  abbrev n : ℕ
  n = suc (length ds)

  abbrev turn : Verdict → Reading
  turn v = then (turned v k l st) l at st

  turn_walk : walk l 0 at st ≡ turn (judge_of k n h st)
  unfolding turn_of
  turn_walk = walk_turn a ds at st

  by_header : (v : Verdict) → header_verdict k a n ≡ v → header_verdict k (dword h 0) n ≡ v
  unfolding head_of
  by_header v e = e

  -- rows 3 and 4 refuse
  module _ (f : Fault) (e : header_verdict k a t ≡ Err f) where
    pub refuses : judge_of k n h st ≡ Err f
    refuses = judge_header k n h st f (by_header (Err f) (header_rows k a n ∙ ap (λ (v : Verdict). with_five v (ltb n t)) e))

    abbrev m : ℕ
    m = number_of_refusal f.refusal

    number : T (leb 3 m && leb m 9)
    number = subst (λ (v : Verdict). T (in_range v)) refuses (fault_number k n h st)

    refused_is : run (between st at) l ≡ ran [] (after_change st at (faulted f))
    refused_is = run_refused st at a ds f e (number_on m number)

    refused_folds : Folds st at l
    unfolding after_change
    refused_folds =
        record {
          reads = ap read_by refused_is ∙ ap (reading []) (stop_fault m number st at f.skip) ∙ sym (turn_walk ∙ ap turn refuses);
          sound = λ p q. subst (λ (x : Run). Sound (at + n) x.progress) (sym refused_is)
              (sound_stopped (at + n) (after_change st at (faulted f)) (number_on m number));
        }

  module _ (hp : header_verdict k a t ≡ no_fault) where
    header_is : (b : Bool) → ltb n t ≡ b → header_verdict k (dword h 0) n ≡ cond b (refused Truncated 0) no_fault
    header_is b e = by_header (cond b (refused Truncated 0) no_fault) (header_rows k a n ∙ ap₂ with_five hp e)

    pub judge_short : n < t → judge_of k n h st ≡ refused Truncated 0
    judge_short q = judge_header k n h st (record { refusal = Truncated; skip = 0 }) (header_is true (lt-ltb n t q))

    pub judge_whole : t ≤ n → judge_of k n h st ≡ own_verdict k h st
    judge_whole q = judge_own k n h st (header_is false (le-ltb n t q))

    -- the command is not whole
    module _ (q : n < t) where
      short_is : run (between st at) l ≡ ran [] (held st at h n)
      short_is = run_short st at a hp ds q

      five : stop_of (held st at h n) ≡ stopped 5 at
      unfolding stop_by
      five = simp (ne_eqb n 0 (λ e. omega arith))

      short_folds : Folds st at l
      short_folds =
          record {
            reads =
                ap read_by short_is ∙ ap (reading []) five
                ∙ sym (turn_walk ∙ ap turn (judge_short q) ∙ ap (λ (x : ℕ). reading [] (stopped 5 x)) (add-zero at));
            sound = λ p q. subst (λ (x : Run). Sound (at + n) x.progress) (sym short_is) (record { come = λ e. omega arith; commands = λ e. p; objects = λ e. q });
          }

    -- it is
    module _ (q : t ≤ n) (ih : (s : State) → Folds s (at + t) (drop t l)) where
      verdict_is : judge_of k t h st ≡ judge_of k n h st
      unfolding head_of
      verdict_is = judge_own k t h st hp ∙ sym (judge_whole q)

      abbrev end : Verdict → Run
      end v = run_from st at (judged v h) (drop t l)

      whole_is : run (between st at) l ≡ end (judge_of k t h st)
      whole_is = run_command st at a hp ds q

      abbrev next : State
      next = state_after k h st

      -- it passes: END, after which reading has stopped, or any other
      abbrev after : ℕ → Progress
      after stop = record { st = next; own = none; place = at + t; got = 0; stop = stop }

      ended_run : run (after at_end) (drop t l) ≡ ran [] (after at_end)
      ended_run = run_stopped (after at_end) (λ f. omega arith) (drop t l)

      passed_run : (b : Bool) → eqb k 2 ≡ b → end no_fault ≡ and_then st at (passes h) (run (after (cond b at_end 0)) (drop t l))
      unfolding after_change head_of
      passed_run b e = ap (λ (x : Bool). and_then st at (passes h) (run (after (cond x at_end 0)) (drop t l))) e

      passed_turn : (b : Bool) → eqb k 2 ≡ b → turn no_fault ≡ then (cond b Last (Next t next)) l at st
      passed_turn b e = ap (λ (x : Bool). then (cond x Last (Next t next)) l at st) e

      whole_here : whole st at h ≡ here l at st
      unfolding head_of
      whole_here = refl

      passed_reads : (b : Bool) → eqb k 2 ≡ b → read_by (and_then st at (passes h) (run (after (cond b at_end 0)) (drop t l))) ≡ then (cond b Last (Next t next)) l at st
      unfolding stop_by
      passed_reads true e =
          let z : at + t ≡ at + 1 = ap (λ (x : ℕ). at + x) (end_one k a (eqb-true k 2 e)) in
          ap (λ (x : Run). reading (whole st at h ∷ x.passed) (stop_of x.progress)) ended_run
          ∙ ap₂ (λ (c : Command) (x : ℕ). reading (c ∷ []) (ended x)) whole_here z
      passed_reads false e = ap₂ (λ (c : Command) (x : Reading). reading (c ∷ x.passed) x.stop) whole_here (ih next).reads

      reads_as : (v : Verdict) → T (in_range v) → read_by (end v) ≡ turn v
      unfolding after_change
      reads_as (Err f) p =
          let m = number_of_refusal f.refusal in
          ap read_by (run_stopped (after_change st at (faulted f)) (number_on m p) (drop t l)) ∙ ap (reading []) (stop_fault m p st at f.skip)
      reads_as (Ok u) p = ap read_by (passed_run (eqb k 2) refl) ∙ passed_reads (eqb k 2) refl ∙ sym (passed_turn (eqb k 2) refl)

      left_is : at + t + length (drop t l) ≡ at + n
      left_is = let z = length-drop t l in omega arith

      passed_sound : (b : Bool) → eqb k 2 ≡ b → st.commands ≤ at → st.objects ≤ at → Sound (at + n) (run (after (cond b at_end 0)) (drop t l)).progress
      passed_sound true e p q =
          subst (λ (x : Run). Sound (at + n) x.progress) (sym ended_run) (sound_stopped (at + n) (after at_end) (λ f. omega arith))
      passed_sound false e p q =
          let z = total_pos k a in
          let c = after_commands k h st in
          let o = after_objects k h st in
          let g = grown (eqb k 7) st.objects in
          subst (λ (m : ℕ). Sound m (run (after 0) (drop t l)).progress) left_is ((ih next).sound (omega arith) (omega arith))

      sound_as : (v : Verdict) → T (in_range v) → st.commands ≤ at → st.objects ≤ at → Sound (at + n) (end v).progress
      unfolding after_change
      sound_as (Err e) f p q =
          let m = number_of_refusal e.refusal in
          subst (λ (x : Run). Sound (at + n) x.progress) (sym (run_stopped (after_change st at (faulted e)) (number_on m f) (drop t l)))
          (sound_stopped (at + n) (after_change st at (faulted e)) (number_on m f))
      sound_as (Ok u) f p q = subst (λ (x : Run). Sound (at + n) x.progress) (sym (passed_run (eqb k 2) refl)) (passed_sound (eqb k 2) refl p q)

      whole_folds : Folds st at l
      whole_folds =
          record {
            reads = ap read_by whole_is ∙ reads_as (judge_of k t h st) (fault_number k t h st) ∙ ap turn verdict_is ∙ sym turn_walk;
            sound = λ p q. subst (λ (x : Run). Sound (at + n) x.progress) (sym whole_is) (sound_as (judge_of k t h st) (fault_number k t h st) p q);
          }

    passed_folds : ((s : State) → Folds s (at + t) (drop t l)) → Folds st at l
    passed_folds ih = by_test (ltb n t) (λ e. short_folds (ltb-true n t e)) (λ e. whole_folds (ltb-false n t e) ih)

  by_verdict_lem : (v : Verdict) → header_verdict k a t ≡ v → ((s : State) → Folds s (at + t) (drop t l)) → Folds st at l
  by_verdict_lem (Err f) e ih = refused_folds f e
  by_verdict_lem (Ok u) e ih = passed_folds e ih

shorter : (m : ℕ) (st : State) (a : ℕ) (ds : List ℕ) → length (a ∷ ds) ≤ suc m → length (drop (total_of (kind_of st.chip a) a) (a ∷ ds)) ≤ m
shorter m st a ds q = let z = total_pos (kind_of st.chip a) a in let y = length-drop (total_of (kind_of st.chip a) a) (a ∷ ds) in omega arith

none_folds : (st : State) (at : ℕ) → Folds st at []
unfolding run walk stop_by
none_folds st at = record { reads = refl; sound = λ p q. record { come = λ e. omega arith; commands = λ e. p; objects = λ e. q } }

folds_within : (m : ℕ) (l : List ℕ) → length l ≤ m → (st : State) (at : ℕ) → Folds st at l
folds_within zero [] q st at = none_folds st at
folds_within (suc m) [] q st at = none_folds st at
folds_within zero (a ∷ ds) q st at = absurd (omega arith)
folds_within (suc m) (a ∷ ds) q st at =
    let t = total_of (kind_of st.chip a) a in
    by_verdict_lem st at a ds (header_verdict (kind_of st.chip a) a t) refl (λ s. folds_within m (drop t (a ∷ ds)) (shorter m st a ds q) s (at + t))

-- LAW: dword by dword, what a list comes to
pub folds : (l : List ℕ) (st : State) (at : ℕ) → Folds st at l
folds l st at = folds_within (length l) l (omega arith) st at

-- before the first dword
abbrev pub beginning_of : Target → Progress
beginning_of target = between (state_of target []) 0

-- LAW: the dwords of a batch one by one, from the start, are its reading
pub fold_reading : (target : Target) (b : List ℕ) → read_by (run (beginning_of target) b) ≡ reading_of target b
fold_reading target b = (folds b (state_of target []) 0).reads ∙ sym (reading_walk target b)

pub fold_sound : (target : Target) (b : List ℕ) → Sound (length b) (run (beginning_of target) b).progress
unfolding state_of object_count
fold_sound target b =
    let e : 0 + length b ≡ length b = omega arith in
    subst (λ (n : ℕ). Sound n (run (beginning_of target) b).progress) e ((folds b (state_of target []) 0).sound (omega arith) (omega arith))
