-- What a turn of the second pass shows: the commands still to be read, over what is written so far. Assumes nothing.
use mathlib.Core.Path.{◌≡◌, refl, sym, ap, ap₂, subst, ◌∙◌}
use mathlib.Core.Bool.{true, cond}
use Prim.Native.Nat.{ℕ, ◌+◌, ◌-◌, ◌*◌, ◌<◌, ◌≤◌}
use native.Mathlib.Omega.{arith}
use mathlib.Core.List.{List, []}
use lib.ListN.{length, get_or, drop}
use lib.Seq.{drop-drop}
use lib.Dec.{ltb, eqb}
use borrow.Author.Tests.{ltb-true, ltb-false, eq-eqb, ne_eqb}
use Rattle.chips.specs.declared.Target.{Target}
use Rattle.laws.proofs.Choices.{by_test}
use Rattle.command.specs.declared.State.{State}
use Rattle.std.specs.Prelude.{Ok, Err}
use Rattle.command.specs.Kinds.{kind_of, length_field, length_allowed, total_of, head_of, own_dwords}
use Rattle.command.specs.Order.{command_of, state_of, state_after}
use Rattle.record.specs.Record.{record_of}
use Rattle.judge.specs.Refusals.{Verdict, no_fault, header_verdict, judge_of}
use Rattle.judge.proofs.Judged.{passed_header, passed_length, own_fits_left}
use Rattle.words.specs.Dwords.{Buffer, put_in}
use Rattle.reading.specs.Reading.{Whole, Reading, and_then, reading_of}
use Rattle.records.specs.Records.{put_words, written, Fits, recorded}
use Rattle.reading.specs.Turns.{Turn, Refused, Last, Next, walk, turned, turn_of, here}
use Rattle.records.specs.Turns.{Passes, with_record, records_from, Left}
use Rattle.reading.proofs.Walk.{reading_walk, then, turn_at, walk_end}
use Rattle.reading.proofs.Turns.{first, turn_is, head_first}
use Rattle.reading.proofs.Scans.{grown, next_bounds, start_commands, start_objects}

-- a turn that is not refused has passed all rows
passed_turn : (v : Verdict) (k : ℕ) (l : List ℕ) (st : State) → Passes (turned v k l st) → v ≡ no_fault
passed_turn (Err f) k l st h = absurd h
passed_turn (Ok u) k l st h = refl

-- d, k, t and h are the first dword at a place, its kind, its total and its own dwords, as the code has them
module _ (b : List ℕ) (at d k : ℕ) (st : State) (ed : d ≡ get_or b at 0) (ek : k ≡ kind_of st.chip d) where
  abbrev L : ℕ
  L = length b

  begins : get_or (drop at b) 0 0 ≡ d
  begins = first b L at d k st (header_verdict k d (L - at)) refl ed ek refl

  kinds : kind_of st.chip (get_or (drop at b) 0 0) ≡ k
  kinds = ap (kind_of st.chip) begins ∙ sym ek

  turns_as : turn_of (drop at b) st ≡ turned (judge_of k (L - at) (head_of k (drop at b)) st) k (drop at b) st
  turns_as = turn_is b L at d k st (header_verdict k d (L - at)) refl ed ek refl

  module _ (g : Passes (turn_of (drop at b) st)) where
    passed : judge_of k (L - at) (head_of k (drop at b)) st ≡ no_fault
    passed = passed_turn (judge_of k (L - at) (head_of k (drop at b)) st) k (drop at b) st (subst Passes turns_as g)

    pub own_passed : at < length b → at + own_dwords k ≤ length b
    own_passed p =
        let h = head_of k (drop at b) in
        let z = own_fits_left k (get_or h 0 0) (L - at) (passed_header k (L - at) h st passed) in omega arith

    pub length_passed : length_allowed k (length_field d) ≡ true
    length_passed =
        let h = head_of k (drop at b) in
        let f = head_first b L at d k st (header_verdict k d (L - at)) refl ed ek refl in
        passed_length k d (L - at) (subst (λ (x : ℕ). header_verdict k x (L - at) ≡ no_fault) f (passed_header k (L - at) h st passed))

    module _ (t : ℕ) (h : List ℕ) (et : t ≡ total_of k d) (eh : h ≡ head_of k (drop at b)) where
      turned_is : turn_of (drop at b) st ≡ cond (eqb k 2) Last (Next t (state_after k h st))
      turned_is =
          turns_as ∙ ap (λ (v : Verdict). turned v k (drop at b) st) passed
          ∙ ap₂ (λ (x : ℕ) (y : List ℕ). cond (eqb k 2) Last (Next x (state_after k y st))) (ap (total_of k) begins ∙ sym et) (sym eh)

      pub following_end : k ≡ 2 → Last ≡ turn_of (drop at b) st
      following_end q = rw turned_is (simp (eq-eqb k 2 q))

      pub following_then : (s : State) → (k ≡ 2 → ⊥) → s ≡ state_after k h st → Next t s ≡ turn_of (drop at b) st
      following_then s q es = rw turned_is (simp (ne_eqb k 2 q) (ap (Next t) es))

  module _ (t : ℕ) (h : List ℕ) (et : t ≡ total_of k d) (eh : h ≡ head_of k (drop at b)) where
    it : command_of k at t h st ≡ here (drop at b) at st
    it =
        sym (ap (λ (x : ℕ). command_of x at (total_of x (get_or (drop at b) 0 0)) (head_of x (drop at b)) st) kinds
        ∙ ap₂ (λ (x : ℕ) (y : List ℕ). command_of k at x y st) (ap (total_of k) begins ∙ sym et) (sym eh))

    pub record_here : {E : Type 0} (stored : List E → ℕ → ℕ → List E) (r r' : Buffer E) (w : List ℕ) → w ≡ record_of (command_of k at t h st)
        → r' ≡ put_words (put_in stored) r st.commands w 16 → r' ≡ with_record stored b at st r
    record_here stored r r' w ew er = er ∙ ap (λ (x : List ℕ). put_words (put_in stored) r st.commands x 16) (ew ∙ ap record_of it)

pub ruleset following_laws = (following_end, following_then, record_here)

-- a batch that is read to its END has no refusal on the way
live_passes : (w : Turn) (l : List ℕ) (at : ℕ) (st : State) → Whole (then w l at st).stop → Passes w
live_passes (Refused f) l at st h = absurd h
live_passes Last l at st h = tt
live_passes (Next t s) l at st h = tt

-- what the pass keeps
module _ (b : List ℕ) (at : ℕ) (st : State) (n : ℕ) (l : Left b at st n) where
  pub left_in : at < length b
  left_in =
      by_test (ltb at (length b)) (λ t. ltb-true at (length b) t)
      (λ t. absurd (subst (λ (r : Reading). Whole r.stop) (walk_end b at st (ltb-false at (length b) t)) l.whole))

  pub left_passes : Passes (turn_of (drop at b) st)
  left_passes = live_passes (turn_of (drop at b) st) (drop at b) at st (subst (λ (r : Reading). Whole r.stop) (turn_at b at st left_in) l.whole)

  -- one command more is still to be read
  some : (w : Turn) → Passes w → 1 ≤ length (then w (drop at b) at st).passed
  some (Refused f) g = absurd g
  some Last g = omega arith
  some (Next t s) g = omega arith

  pub left_room : 16 * st.commands + 16 ≤ n
  left_room =
      let z = some (turn_of (drop at b) st) left_passes in
      let y = ap (λ (x : Reading). length x.passed) (turn_at b at st left_in) in
      let f = l.fits in omega arith

  walks : (w : Turn) → turn_of (drop at b) st ≡ w → walk (drop at b) 0 at st ≡ then w (drop at b) at st
  walks w e = turn_at b at st left_in ∙ ap (λ (w : Turn). then w (drop at b) at st) e

  -- the record of the last command
  pub left_last : {E : Type 0} (stored : List E → ℕ → ℕ → List E) (r r' : Buffer E) → turn_of (drop at b) st ≡ Last → r' ≡ with_record stored b at st r
      → r' ≡ records_from stored b at st r
  unfolding written records_from
  left_last stored r r' e er = er ∙ ap (λ (x : Reading). written (put_in stored) x.passed st.commands r) (sym (walks Last e))

  module _ (t : ℕ) (s : State) (e : turn_of (drop at b) st ≡ Next t s) where
    bounds : (1 ≤ t) × (t ≤ length b - at) × (s.commands ≡ st.commands + 1) × (s.objects ≤ st.objects + 1)
    bounds =
        let z = next_bounds b (length b) refl at st (turn_of (drop at b) st) t s left_in refl e in
        let g = grown (eqb (kind_of st.chip (get_or (drop at b) 0 0)) 7) st.objects in (z.0, z.1, z.2, omega arith)

    goes : walk (drop at b) 0 at st ≡ and_then (here (drop at b) at st) (walk (drop (at + t) b) 0 (at + t) s)
    goes = walks (Next t s) e ∙ ap (λ (l : List ℕ). and_then (here (drop at b) at st) (walk l 0 (at + t) s)) (drop-drop t at b)

    pub left_less : length b - (at + t) < length b - at
    left_less = let z = bounds in let i = left_in in omega arith

    pub left_more : at + 1 ≤ at + t
    left_more = let z = bounds in omega arith

    pub left_next : Left b (at + t) s n
    left_next =
        let z = bounds in
        let y = ap (λ (x : Reading). length x.passed) goes in
        let f = l.fits in
        let c = l.commands in
        let o = l.objects in
        record {
          limit = l.limit;
          commands = omega arith;
          objects = omega arith;
          whole = subst (λ (r : Reading). Whole r.stop) goes l.whole;
          fits = omega arith;
        }

    -- the record of this command, and then the rest
    pub left_records : {E : Type 0} (stored : List E → ℕ → ℕ → List E) (r r' : Buffer E) → r' ≡ with_record stored b at st r
        → records_from stored b (at + t) s r' ≡ records_from stored b at st r
    unfolding written records_from
    left_records {E = E} stored r r' er =
        let q : s.commands ≡ st.commands + 1 = bounds.2 in
        ap₂ (λ (n : ℕ) (x : Buffer E). written (put_in stored) (walk (drop (at + t) b) 0 (at + t) s).passed n x) q er
        ∙ ap (λ (x : Reading). written (put_in stored) x.passed st.commands r) (sym goes)

module _ (target : Target) (b : List ℕ) (st : State) (e : st ≡ state_of target []) where
  starts : reading_of target b ≡ walk b 0 0 st
  starts = reading_walk target b ∙ ap (walk b 0 0) (sym e)

  none : st.commands ≡ 0
  unfolding state_of
  none = ap (λ (s : State). s.commands) e

  pub start_left : (n : ℕ) → Fits target b n → Left b 0 st n
  start_left n f =
      let y = ap (λ (x : Reading). length x.passed) starts in
      let z = none in
      let r = f.2 in
      record {
        limit = f.0;
        commands = start_commands target st e;
        objects = start_objects target st e;
        whole = subst (λ (r : Reading). Whole r.stop) starts f.1;
        fits = omega arith;
      }

  pub start_records : {E : Type 0} (stored : List E → ℕ → ℕ → List E) (r : Buffer E) → records_from stored b 0 st r ≡ recorded (put_in stored) target b r
  unfolding records_from
  start_records stored r = ap₂ (λ (x : Reading) (n : ℕ). written (put_in stored) x.passed n r) (sym starts) none
