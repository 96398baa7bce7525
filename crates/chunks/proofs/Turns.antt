-- What a turn of the loop over a chunk shows. Assumes nothing.
use mathlib.Core.Path.{◌≡◌, refl, sym, ap, ap₂, subst, ◌∙◌}
use mathlib.Core.Bool.{Bool, true, false, cond, ◌&&◌}
use Prim.Native.Nat.{ℕ, suc, ◌+◌, ◌-◌, ◌^◌, ◌<◌, ◌≤◌}
use native.Mathlib.Numerals.{add-one}
use native.Mathlib.Omega.{arith}
use mathlib.Core.List.{List, [], ◌∷◌, append-nil}
use lib.ListN.{length, get_or, take, drop, length-drop, take-append-drop, drop_of_length-le}
use lib.Seq.{drop-cons, drop-drop, take_all, length-take-le}
use lib.Dec.{T, ltb, leb, eqb}
use borrow.Author.Tests.{ltb-true, ltb-false, eq-eqb}
use Rattle.laws.proofs.Choices.{by_test}
use Rattle.chips.specs.declared.Chip.{Chip}
use Rattle.command.specs.declared.State.{State}
use Rattle.command.specs.Kinds.{length_allowed, kind_of, total_of, head_of, own_dwords}
use Rattle.command.specs.Order.{command_of, state_after}
use Rattle.command.proofs.Order.{after_chip, after_commands, after_objects}
use Rattle.std.specs.Prelude.{Ok, Err, Option, Some, None}
use Rattle.std.specs.Result.{result_ok}
use Rattle.std.specs.Bool.{then_some}
use Rattle.chips.specs.Refusals.{number_of_refusal}
use Rattle.judge.specs.declared.Fault.{Fault}
use Rattle.judge.specs.Refusals.{Verdict, no_fault, judge_of, header_verdict, own_verdict, Vouches}
use Rattle.judge.proofs.Judged.{judge_own, judge_header, header_fits, passed_fits, own_in_total, total_pos, in_range, fault_number}
use Rattle.record.specs.Record.{record_of}
use Rattle.reading.specs.Turns.{Header, stands_at}
use Rattle.reading.proofs.Scans.{grown}
use Rattle.reading.proofs.Steps.{stands_fits, stands_same}
use Rattle.progress.specs.declared.Progress.{Progress}
use Rattle.progress.specs.Steps.{kind_in, total_in, alone, Change, fault, faulted, unfinished, passes, judged, settled, gathered, come, beginning, between, after_change, fitted, written_by, Stage, stage, by_change, stage_after}
use Rattle.progress.specs.Parts.{gathered_in, dwords_left, Counts}
use Rattle.progress.specs.Sound.{Sound}
use Rattle.progress.proofs.Gathers.{gathered_all, gathered_in_lem, first_all, total_all}
use Rattle.progress.proofs.Runs.{ran, run, run_from, run_step, run_stopped, held, run_held, run_whole, run_refused, gathers, run_short, run_command, settled_is}
use Rattle.progress.proofs.Stages.{stage_stays, stage_event, stage_same}
use Rattle.progress.proofs.Fold.{number_on}
use Rattle.chunks.specs.declared.Reached.{Reached}
use Rattle.chunks.specs.Turns.{Ready, leaves_from, Kept, Went, LedOn, Objects, no_more, one_more}
use Rattle.progress.proofs.Leaves.{skip_small, pass_on}

-- how many dwords have been read up to dword i of the chunk, at most
abbrev read_to : List ℕ → ℕ → ℕ
read_to l i = 16384 - length l + i

-- an event that is all of the dwords from i to j
pub event_went : (l : List ℕ) (c : Progress) (i : ℕ) (r : List ℕ) (j : ℕ) (e : Change) (c' : Progress) (r' : List ℕ)
    → run c (drop i l) ≡ run_from c.st c.place e (drop j l) → stage c' r' ≡ by_change c.st c.place e r → i < j → Ready l j c' → Went l c i r c' j r'
event_went l c i r j e c' r' er es p rd =
    record {
      on = p;
      kept = record { forth = omega arith; ready = rd; leaves = ap (λ (s : Stage). stage_after s (drop j l)) es ∙ stage_event c (drop i l) (drop j l) e er r };
    }

-- what an event leaves is sound
module _ (st : State) (at n : ℕ) (h : List ℕ) (qc : st.commands ≤ at) (qo : st.objects ≤ at) (q : at + total_in st h ≤ n) where
  sound_passes : Sound n (after_change st at (passes h))
  unfolding after_change
  sound_passes =
      let z = total_pos (kind_in st h) (get_or h 0 0) in
      let a = after_commands (kind_in st h) h st in
      let b = after_objects (kind_in st h) h st in
      let g = grown (eqb (kind_in st h) 7) st.objects in
      record { come = λ e. omega arith; commands = λ e. omega arith; objects = λ e. omega arith }

  sound_judged : (v : Verdict) → T (in_range v) → Sound n (after_change st at (judged v h))
  unfolding after_change
  sound_judged (Err e) f =
      let z = number_on (number_of_refusal e.refusal) f in record { come = λ e. absurd (z e); commands = λ e. absurd (z e); objects = λ e. absurd (z e) }
  sound_judged (Ok u) f = sound_passes

  pub sound_settled : Sound n (after_change st at (settled st h))
  sound_settled = sound_judged (judge_of (kind_in st h) (total_in st h) h st) (fault_number (kind_in st h) (total_in st h) h st)

pub sound_fault : (st : State) (at n : ℕ) (e : Fault) → T (leb 3 (number_of_refusal e.refusal) && leb (number_of_refusal e.refusal) 9)
    → Sound n (after_change st at (faulted e))
unfolding after_change
sound_fault st at n e f = let z = number_on (number_of_refusal e.refusal) f in record { come = λ e. absurd (z e); commands = λ e. absurd (z e); objects = λ e. absurd (z e) }

pub ready_at : (l : List ℕ) (j : ℕ) (c c' : Progress) → c ≡ c' → j ≤ length l → length l ≤ 16384 → Sound (read_to l j) c' → Ready l j c
ready_at l j c c' e p q s = record { inside = p; few = q; sound = subst (Sound (read_to l j)) (sym e) s }

-- the dwords left of a command, as numbers
left_reaches : (t g : ℕ) → t ≤ g + dwords_left t g
left_reaches t g =
    by_test (ltb g t)
    (λ p. let y = ltb-true g t p in let z : dwords_left t g ≡ t - g = simp p in omega arith)
    (λ p. let y = ltb-false g t p in omega arith)

pub left_short : (t g n : ℕ) → 1 ≤ n → n < dwords_left t g → g + n < t
left_short t g n p q =
    by_test (ltb g t)
    (λ e. let y = ltb-true g t e in let z : dwords_left t g ≡ t - g = simp e in omega arith)
    (λ e. let z : dwords_left t g ≡ 1 = simp e in absurd (omega arith))

pub inside_counts : (l : List ℕ) (i : ℕ) (c : Progress) → Ready l i c → c.stop ≡ 0 → Counts c.st c.place
inside_counts l i c rd o =
    let s = rd.sound in
    let a = s.come o in
    let p = rd.inside in
    let f = rd.few in
    record { limit = omega arith; commands = s.commands o; objects = s.objects o }

pub got_small : (l : List ℕ) (i : ℕ) (c : Progress) → Ready l i c → c.stop ≡ 0 → c.got ≤ 16384
got_small l i c rd o = let a = rd.sound.come o in let p = rd.inside in let f = rd.few in omega arith

-- in a command that is not whole
module _ (l : List ℕ) (c : Progress) (i : ℕ) (r : List ℕ) (rd : Ready l i c) (q : i < length l) (o : c.stop ≡ 0) (n : c.got ≡ 0 → ⊥)
    (d k t most left : ℕ) (ed : d ≡ get_or c.own 0 0) (ek : k ≡ kind_of c.st.chip d) (et : t ≡ total_of k d) (em : most ≡ own_dwords k) (el : left ≡ dwords_left t c.got) where
  abbrev st : State
  st = c.st

  kind_in_lem : k ≡ kind_in st c.own
  kind_in_lem = ek ∙ ap (kind_of st.chip) ed

  total_in_lem : t ≡ total_in st c.own
  total_in_lem = et ∙ ap₂ total_of kind_in_lem ed

  held_is : c ≡ held st c.place c.own c.got
  held_is = ap (λ (x : ℕ). record { st = c.st; own = c.own; place = c.place; got = c.got; stop = x }) o

  gathers_as : (h p : List ℕ) → h ≡ gathered_in most c.own c.got p → gathered_all st c.own c.got p ≡ h
  gathers_as h p e =
      gathered_in_lem st p c.own c.got n
      ∙ ap (λ (m : ℕ). gathered_in m c.own c.got p) (sym (em ∙ ap own_dwords kind_in_lem)) ∙ sym e

  -- all the dwords of the chunk belong to it, and do not make it whole
  pub more_went : (m : ℕ) (h : List ℕ) (c' : Progress) → m ≡ length l - i → m < left → h ≡ gathered_in most c.own c.got (take m (drop i l))
      → c' ≡ after_change st c.place (unfinished h (c.got + m)) → Went l c i r c' (i + m) r
  unfolding after_change written_by
  more_went m h c' e w eh ec =
      let z = length-drop i l in
      let y : length (drop i l) ≡ m = omega arith in
      let x = left_short t c.got m (omega arith) (omega arith) in
      let ti = total_in_lem in
      let v : c.got + length (drop i l) < total_in st c.own = omega arith in
      let a = rd.sound.come o in
      let f = rd.few in
      let all : take m (drop i l) ≡ drop i l = take_all m (drop i l) (omega arith) in
      let b : length l ≤ i + m = omega arith in
      let none : drop (i + m) l ≡ [] = drop_of_length-le l b in
      let g = gathers_as h (drop i l) (eh ∙ ap (gathered_in most c.own c.got) all) in
      event_went l c i r (i + m) (unfinished h (c.got + m)) c' r
      (ap (λ (x : Progress). run x (drop i l)) held_is
      ∙ ap (run (held st c.place c.own c.got)) (sym (append-nil (drop i l)))
      ∙ run_held st c.place (drop i l) c.own c.got [] n v
      ∙ ap₂ (λ (x : List ℕ) (y : ℕ). run (held st c.place x (c.got + y)) []) g y
      ∙ ap (run (held st c.place h (c.got + m))) (sym none))
      (ap (λ (x : Progress). stage x r) ec)
      (omega arith)
      (ready_at l (i + m) c' (after_change st c.place (unfinished h (c.got + m))) ec (omega arith) f
      (record { come = λ e. omega arith; commands = λ e. rd.sound.commands o; objects = λ e. rd.sound.objects o }))

  -- they make it whole
  pub last_went : (h : List ℕ) (c' : Progress) (r' : List ℕ) → left ≤ length l - i → h ≡ gathered_in most c.own c.got (take left (drop i l))
      → stage c' r' ≡ by_change st c.place (settled st h) r → Went l c i r c' (i + left) r'
  last_went h c' r' w eh es =
      let z = length-drop i l in
      let y : length (take left (drop i l)) ≡ left = length-take-le left (drop i l) (omega arith) in
      let p : length (take left (drop i l)) ≡ dwords_left (total_in st c.own) c.got = y ∙ el ∙ ap (λ (x : ℕ). dwords_left x c.got) total_in_lem in
      let a = rd.sound.come o in
      let f = rd.few in
      let g = gathers_as h (take left (drop i l)) eh in
      let u = left_reaches t c.got in
      let ti = total_in_lem in
      let s : total_in st h ≡ total_in st c.own = ap (total_in st) (sym g) ∙ total_all st (take left (drop i l)) c.own c.got n in
      let b : 1 ≤ left = left_one in
      event_went l c i r (i + left) (settled st h) c' r'
      (ap (λ (x : Progress). run x (drop i l)) held_is
      ∙ ap (run (held st c.place c.own c.got)) (sym (take-append-drop left (drop i l)))
      ∙ run_whole st c.place (take left (drop i l)) c.own c.got (drop left (drop i l)) n p
      ∙ ap₂ (λ (x y : List ℕ). run_from st c.place (settled st x) y) g (drop-drop left i l))
      es
      (omega arith)
      (ready_at l (i + left) c' (after_change st c.place (settled st h)) (ap (λ (x : Stage). x.progress) es) (omega arith) f
      (sound_settled st c.place (read_to l (i + left)) h (rd.sound.commands o) (rd.sound.objects o) (omega arith)))
    where
      left_one : 1 ≤ left
      left_one =
          by_test (ltb c.got t)
          (λ e. let y = ltb-true c.got t e in let z : dwords_left t c.got ≡ t - c.got = simp e in omega arith)
          (λ e. let z : dwords_left t c.got ≡ 1 = simp e in omega arith)

  -- and it passes
  pub passed_went : (h : List ℕ) (next : State) (c' : Progress) (r' : List ℕ) → left ≤ length l - i
      → h ≡ gathered_in most c.own c.got (take left (drop i l)) → judge_of k (total_of k (get_or h 0 0)) h st ≡ no_fault → (k ≡ 2 → ⊥)
      → next ≡ state_after k h st → r' ≡ fitted r st.commands (record_of (command_of k c.place t h st)) → c' ≡ between next (c.place + t)
      → Went l c i r c' (i + left) r'
  passed_went h next c' r' w eh e n2 en er ec =
      last_went h c' r' w eh
      (pass_on st c.place h k t kind_h total_h next r r' c' en er ec n2
      ∙ ap (λ (v : Verdict). by_change st c.place (judged v h) r) (sym (ap (λ (x : ℕ). judge_of x (total_of x (get_or h 0 0)) h st) (sym kind_h) ∙ e)))
    where
      first_h : get_or h 0 0 ≡ d
      first_h =
          ap (λ (x : List ℕ). get_or x 0 0) (sym (gathers_as h (take left (drop i l)) eh))
          ∙ first_all st (take left (drop i l)) c.own c.got n ∙ sym ed

      kind_h : k ≡ kind_in st h
      kind_h = ek ∙ ap (kind_of st.chip) (sym first_h)

      total_h : t ≡ total_in st h
      total_h = et ∙ ap₂ total_of kind_h (sym first_h)

pub object_long : (d t : ℕ) → t ≡ total_of 7 d → 1 ≤ t
object_long d t e = let z = total_pos 7 d in omega arith

-- an OBJECT has six dwords of its own
pub six_own : 6 ≡ own_dwords 7
unfolding own_dwords
six_own = refl

pub gathered_as : (most m : ℕ) (h l : List ℕ) (g : ℕ) (r : List ℕ) → r ≡ gathered_in most h g l → most ≡ m → r ≡ gathered_in m h g l
gathered_as most m h l g r e q = e ∙ ap (λ (x : ℕ). gathered_in x h g l) q

pub total_as_kind : (k n d t : ℕ) → t ≡ total_of k d → k ≡ n → t ≡ total_of n d
total_as_kind k n d t e q = e ∙ ap (λ (x : ℕ). total_of x d) q

-- a call that goes by copies
module _ (st st' : State) (es : st' ≡ st) (at : ℕ) where
  pub counts_same : Counts st at → Counts st' at
  counts_same q = subst (λ (x : State). Counts x at) (sym es) q

  pub settled_same : (h h' r r' : List ℕ) (c c' : Progress) → h' ≡ h → c' ≡ c → stage c r' ≡ by_change st' at (settled st' h') r
      → stage c' r' ≡ by_change st at (settled st h) r
  settled_same h h' r r' c c' eh ec e =
      ap (λ (x : Progress). stage x r') ec ∙ e ∙ ap₂ (λ (x : State) (y : List ℕ). by_change x at (settled x y) r) es eh

pub object_judged : (h : List ℕ) (st : State) (d t : ℕ) (v : Verdict) (b : Bool) → d ≡ get_or h 0 0 → t ≡ total_of 7 d → v ≡ header_verdict 7 d t → v ≡ no_fault
    → Vouches 7 h st b → b ≡ true → judge_of 7 (total_of 7 (get_or h 0 0)) h st ≡ no_fault
object_judged h st d t v b ed et ev e vs eb =
    judge_own 7 (total_of 7 (get_or h 0 0)) h st (ap (λ (x : ℕ). header_verdict 7 x (total_of 7 x)) (sym ed) ∙ ap (header_verdict 7 d) (sym et) ∙ sym ev ∙ e)
    ∙ vs.passes eb

-- a verdict that is taken as an Option
pub ok_passed : (v : Verdict) (o : Option Unit) (u : Unit) → o ≡ result_ok v → o ≡ Some u → v ≡ no_fault
ok_passed (Ok w) o u e q = refl
ok_passed (Err f) o u e q = absurd (none_some (sym e ∙ q))
  where
    none_some : ◌≡◌ {A = Option Unit} None (Some u) → ⊥
    none_some e = let z : ◌≡◌ {A = ℕ} 0 1 = cc in omega arith

-- rows 3 and 4
module _ (k d t : ℕ) (v : Verdict) (et : t ≡ total_of k d) (ev : v ≡ header_verdict k d t) where
  pub header_passed : (u : Unit) → v ≡ Ok u → header_verdict k d (total_of k d) ≡ no_fault
  header_passed u e = ap (header_verdict k d) (sym et) ∙ sym ev ∙ e

  pub header_skip : (st : State) (at : ℕ) (f : Fault) → Counts st at → v ≡ Err f → at + f.skip < 2 ^ 32
  header_skip st at f q e =
      skip_small st at (d ∷ []) k t v (e ∙ sym (judge_header k t (d ∷ []) st f (sym ev ∙ e))) f q e

-- between two commands
module _ (l : List ℕ) (st : State) (at i : ℕ) (r : List ℕ) (rd : Ready l i (between st at)) where
  module _ (q : i < length l) (d : ℕ) (ed : d ≡ get_or l i 0) where
    abbrev ds : List ℕ
    ds = drop (i + 1) l

    dropped : drop i l ≡ d ∷ ds
    dropped = drop-cons l i 0 q ∙ ap₂ (λ (x m : ℕ). x ∷ drop m l) (sym ed) (sym (add-one i))

    count_ds : suc (length ds) ≡ length l - i
    count_ds = let z = length-drop (i + 1) l in omega arith

    module _ (k : ℕ) (ek : k ≡ kind_of st.chip d) where
      abbrev kd : ℕ
      kd = kind_of st.chip d

      abbrev td : ℕ
      td = total_of (kind_of st.chip d) d

      total_as : (t : ℕ) → t ≡ total_of k d → t ≡ td
      total_as t e = e ∙ ap (λ (x : ℕ). total_of x d) ek

      -- rows 3 and 4 refuse it
      pub fault_went : (v : Verdict) (t : ℕ) (e : Fault) (n : ℕ) (c' : Progress) → t ≡ total_of k d → v ≡ header_verdict k d t → v ≡ Err e
          → n ≡ number_of_refusal e.refusal → c' ≡ after_change st at (fault n e.skip) → Went l (between st at) i r c' (i + 1) r
      unfolding after_change written_by
      fault_went v t e n c' et ev ve en ef =
          let ec : c' ≡ after_change st at (faulted e) = ef ∙ ap (λ (y : ℕ). after_change st at (fault y e.skip)) en in
          let hv : header_verdict kd d td ≡ Err e = sym (ev ∙ ap₂ (λ (x y : ℕ). header_verdict x d y) ek (total_as t et)) ∙ ve in
          let f = fault_range hv in
          let w = rd.few in
          event_went l (between st at) i r (i + 1) (faulted e) c' r
          (ap (run (between st at)) dropped ∙ run_refused st at d ds e hv (number_on (number_of_refusal e.refusal) f)
          ∙ sym (run_stopped (after_change st at (faulted e)) (number_on (number_of_refusal e.refusal) f) ds))
          (ap (λ (x : Progress). stage x r) ec)
          (omega arith)
          (ready_at l (i + 1) c' (after_change st at (faulted e)) ec (omega arith) w (sound_fault st at (read_to l (i + 1)) e f))
        where
          fault_range : header_verdict kd d td ≡ Err e → T (leb 3 (number_of_refusal e.refusal) && leb (number_of_refusal e.refusal) 9)
          fault_range hv = subst (λ (x : Verdict). T (in_range x)) (judge_header kd td (d ∷ []) st e hv) (fault_number kd td (d ∷ []) st)

      module _ (hp : header_verdict k d (total_of k d) ≡ no_fault) where
        passes_as : header_verdict kd d td ≡ no_fault
        passes_as = ap (λ (x : ℕ). header_verdict x d (total_of x d)) (sym ek) ∙ hp

        -- the chunk does not have all of it
        pub short_went : (t m most : ℕ) (h : List ℕ) (c' : Progress) → t ≡ total_of k d → m ≡ length l - i → m < t → most ≡ own_dwords k
            → h ≡ gathered_in most (d ∷ 0 ∷ 0 ∷ 0 ∷ 0 ∷ 0 ∷ 0 ∷ 0 ∷ []) 1 (take (m - 1) (drop (i + 1) l)) → c' ≡ after_change st at (unfinished h m)
            → Went l (between st at) i r c' (i + m) r
        unfolding after_change written_by run
        short_went t m most h c' et en w em eh ec =
            let z = count_ds in
            let e : suc (length ds) ≡ m = omega arith in
            let y = total_as t et in
            let f = rd.few in
            let a = rd.sound.come refl in
            let b : length l ≤ i + m = omega arith in
            let none : drop (i + m) l ≡ [] = drop_of_length-le l b in
            let all : take (m - 1) ds ≡ ds = take_all (m - 1) ds (omega arith) in
            let g : head_of kd (d ∷ ds) ≡ h =
            sym (gathers st at d passes_as ds) ∙ gathered_in_lem st ds (alone d) 1 (λ e. omega arith)
            ∙ ap (λ (x : ℕ). gathered_in x (alone d) 1 ds) (sym (em ∙ ap own_dwords ek))
            ∙ sym (eh ∙ ap (gathered_in most (alone d) 1) all) in
            event_went l (between st at) i r (i + m) (unfinished h m) c' r
            (ap (run (between st at)) dropped ∙ run_short st at d passes_as ds (omega arith)
            ∙ ap₂ (λ (x : List ℕ) (y : ℕ). ran [] (held st at x y)) g e
            ∙ ap (run (held st at h m)) (sym none))
            (ap (λ (x : Progress). stage x r) ec)
            (omega arith)
            (ready_at l (i + m) c' (after_change st at (unfinished h m)) ec (omega arith) f
            (record { come = λ e. omega arith; commands = λ e. rd.sound.commands refl; objects = λ e. rd.sound.objects refl }))

        module _ (t : ℕ) (et : t ≡ total_of k d) (w : t ≤ length l - i) where
          pub own_there : i + own_dwords k ≤ length l
          own_there = let z = own_in_total k d (total_of k d) hp in omega arith

          module _ (h : List ℕ) (eh : h ≡ head_of k (drop i l)) where
            head_is : h ≡ head_of kd (d ∷ ds)
            head_is = eh ∙ ap₂ head_of ek dropped

            whole_run : run (between st at) (drop i l) ≡ run_from st at (settled st h) (drop (i + t) l)
            whole_run =
                let z = count_ds in
                let y = total_as t et in
                let left : drop td (d ∷ ds) ≡ drop (i + t) l = ap (drop td) (sym dropped) ∙ drop-drop td i l ∙ ap (λ (x : ℕ). drop (i + x) l) (sym y) in
                ap (run (between st at)) dropped ∙ run_command st at d passes_as ds (omega arith)
                ∙ ap₂ (λ (x : Change) (y : List ℕ). run_from st at x y) (sym (settled_is st at d passes_as ds) ∙ ap (settled st) (sym head_is)) left

            first_is : get_or h 0 0 ≡ d
            unfolding head_of
            first_is = ap (λ (x : List ℕ). get_or x 0 0) head_is

            total_head : total_in st h ≡ t
            total_head = ap (λ (x : ℕ). total_of (kind_of st.chip x) x) first_is ∙ sym (total_as t et)

            pub kind_head : k ≡ kind_in st h
            kind_head = ek ∙ ap (kind_of st.chip) (sym first_is)

            -- the chunk has all of it
            pub whole_went : (c' : Progress) (r' : List ℕ) → stage c' r' ≡ by_change st at (settled st h) r → Went l (between st at) i r c' (i + t) r'
            whole_went c' r' es =
                let z = total_pos k d in
                let y = total_head in
                let f = rd.few in
                let a = rd.sound.come refl in
                event_went l (between st at) i r (i + t) (settled st h) c' r' whole_run es (omega arith)
                (ready_at l (i + t) c' (after_change st at (settled st h)) (ap (λ (x : Stage). x.progress) es) (omega arith) f
                (sound_settled st at (read_to l (i + t)) h (rd.sound.commands refl) (rd.sound.objects refl) (omega arith)))

            -- and it passes, and is not END
            pub quick_went : (next : State) (r' : List ℕ) → (k ≡ 2 → ⊥) → own_verdict k h st ≡ no_fault → next ≡ state_after k h st
                → r' ≡ fitted r st.commands (record_of (command_of k at t h st)) → Went l (between st at) i r (between next (at + t)) (i + t) r'
            quick_went next r' n e en er =
                whole_went (between next (at + t)) r'
                (pass_on st at h k t kind_head (sym total_head) next r r' (between next (at + t)) en er refl n
                ∙ ap (λ (x : Change). by_change st at x r) (sym passes_is))
              where
                verdict : judge_of (kind_in st h) (total_in st h) h st ≡ no_fault
                verdict =
                    sym (ap₂ (λ (x y : ℕ). judge_of x y h st) kind_head (sym total_head))
                    ∙ judge_own k t h st (ap (λ (x : ℕ). header_verdict k x t) first_is ∙ ap (header_verdict k d) et ∙ hp)
                    ∙ e

                passes_is : settled st h ≡ passes h
                passes_is = ap (λ (x : Verdict). judged x h) verdict

-- END is one dword, which rows 3 and 4 let pass
module _ (l : List ℕ) (st : State) (at i : ℕ) (r : List ℕ) (rd : Ready l i (between st at)) (q : i < length l) (d : ℕ) (ed : d ≡ get_or l i 0)
    (ek : 2 ≡ kind_of st.chip d) where
  end_total : 1 ≡ total_of 2 d
  unfolding total_of
  end_total = refl

  end_header : header_verdict 2 d (total_of 2 d) ≡ no_fault
  unfolding header_verdict length_allowed total_of
  end_header = refl

  pub end_own : i + own_dwords 2 ≤ length l
  end_own = own_there l st at i r rd q d ed 2 ek end_header 1 end_total (omega arith)

  module _ (h : List ℕ) (eh : h ≡ head_of 2 (drop i l)) where
    pub end_kind : 2 ≡ kind_in st h
    end_kind = kind_head l st at i r rd q d ed 2 ek end_header 1 end_total (omega arith) h eh

    pub end_went : (c' : Progress) (r' : List ℕ) → stage c' r' ≡ by_change st at (settled st h) r → Went l (between st at) i r c' (i + 1) r'
    end_went c' r' es = whole_went l st at i r rd q d ed 2 ek end_header 1 end_total (omega arith) h eh c' r' es

pub ruleset first_laws = (fault_went)

pub ruleset begun_laws = (short_went, whole_went)

-- what was kept, and then went on
module _ (l : List ℕ) (c₀ : Progress) (i₀ : ℕ) (r₀ : List ℕ) (c : Progress) (i : ℕ) (r : List ℕ) (k : Kept l c₀ i₀ r₀ c i r) where
  pub kept_on : (c' : Progress) (j : ℕ) (r' : List ℕ) → Kept l c i r c' j r' → Kept l c₀ i₀ r₀ c' j r'
  kept_on c' j r' w = let a = k.forth in let b = w.forth in record { forth = omega arith; ready = w.ready; leaves = w.leaves ∙ k.leaves }

  pub kept_went : (c' : Progress) (j : ℕ) (r' : List ℕ) → Went l c i r c' j r' → Kept l c₀ i₀ r₀ c' j r'
  kept_went c' j r' w = kept_on c' j r' w.kept

pub kept_start : (l : List ℕ) (c : Progress) (i : ℕ) (r : List ℕ) → Ready l i c → Kept l c i r c i r
kept_start l c i r rd = record { forth = omega arith; ready = rd; leaves = refl }

-- the command at a dword, by rows 3 to 5
module _ (l : List ℕ) (st : State) (at i : ℕ) (r : List ℕ) (rd : Ready l i (between st at)) (q : i < length l) (d : ℕ) (ed : d ≡ get_or l i 0) (k : ℕ)
    (ek : k ≡ kind_of st.chip d) (v : Verdict) (ev : v ≡ header_verdict k d (length l - i)) (e : v ≡ no_fault) where
  here_passed : header_verdict k d (total_of k d) ≡ no_fault
  here_passed = header_fits k d (length l - i) (total_of k d) (sym ev ∙ e) (omega arith)

  here_fits : total_of k d ≤ length l - i
  here_fits = passed_fits k d (length l - i) (sym ev ∙ e)

  pub here_own : i + own_dwords k ≤ length l
  here_own = own_there l st at i r rd q d ed k ek here_passed (total_of k d) refl here_fits

  pub here_at : (t : ℕ) → t ≡ total_of k d → at + t ≤ 16384
  here_at t et = let z = here_fits in let a = rd.sound.come refl in let f = rd.few in omega arith

  pub here_i : (t : ℕ) → t ≡ total_of k d → i + t ≤ length l
  here_i t et = let z = here_fits in omega arith

  pub here_went : (t : ℕ) (h : List ℕ) (w : Verdict) (next : State) (r' : List ℕ) → t ≡ total_of k d → h ≡ head_of k (drop i l) → (k ≡ 2 → ⊥)
      → w ≡ own_verdict k h st → w ≡ no_fault → next ≡ state_after k h st → r' ≡ fitted r st.commands (record_of (command_of k at t h st))
      → Went l (between st at) i r (between next (at + t)) (i + t) r'
  here_went t h w next r' et eh n ew e' en er =
      quick_went l st at i r rd q d ed k ek here_passed t et (let z = here_fits in omega arith) h eh next r' n (sym ew ∙ e') en er

-- a turn of the loop over commands that start with the same dword d
module _ (l : List ℕ) (c₀ : Progress) (i₀ : ℕ) (r₀ : List ℕ) (st : State) (at i : ℕ) (r : List ℕ) (k d t : ℕ) (ch : Chip) (kept : Kept l c₀ i₀ r₀ (between st at) i r)
    (hd : Header ch k d) (ec : st.chip ≡ ch) (et : t ≡ total_of k d) (s : Bool) (es : s ≡ stands_at l i t d) (y : s ≡ true) where
  again_fits : t ≤ length l - i
  again_fits = stands_fits l i t d s es y

  again_same : d ≡ get_or l i 0
  again_same = stands_same l i t d s es y

  again_inside : i < length l
  again_inside = let z = again_fits in let p = total_pos k d in omega arith

  kind_again : k ≡ kind_of st.chip d
  kind_again = hd.kind ∙ ap (λ (x : Chip). kind_of x d) (sym ec)

  pub again_own : i + own_dwords k ≤ length l
  again_own = own_there l st at i r kept.ready again_inside d again_same k kind_again hd.allowed t et again_fits

  pub again_first : d ≡ get_or l i 0
  again_first = again_same

  pub again_at : at + t ≤ 16384
  again_at =
      let z = again_fits in let a = kept.ready.sound.come refl in let f = kept.ready.few in let p = again_inside in omega arith

  pub again_i : i + t ≤ length l
  again_i = let z = again_fits in let p = again_inside in omega arith

  pub again_less : length l - (i + t) < length l - i
  again_less = let z = again_fits in let p = total_pos k d in let q = again_inside in omega arith

  module _ (h : List ℕ) (eh : h ≡ head_of k (drop i l)) (next : State) (en : next ≡ state_after k h st) where
    pub again_chip : next.chip ≡ ch
    again_chip = ap (λ (x : State). x.chip) en ∙ after_chip k h st ∙ ec

    pub again_kept : (v : Bool) (r' : List ℕ) → Vouches k h st v → v ≡ true → r' ≡ fitted r st.commands (record_of (command_of k at t h st))
        → Kept l c₀ i₀ r₀ (between next (at + t)) (i + t) r'
    again_kept v r' ev e er =
        kept_went l c₀ i₀ r₀ (between st at) i r kept (between next (at + t)) (i + t) r'
        (quick_went l st at i r kept.ready again_inside d again_same k kind_again hd.allowed t et again_fits h eh next r' hd.goes (ev.passes e) en er)

-- the OBJECTs that were judged
pub objects_more : (l : List ℕ) (st : State) (t d i j : ℕ) → Objects l st t d i j → stands_at l j t d ≡ true → own_verdict 7 (head_of 7 (drop j l)) st ≡ no_fault
    → Objects l st t d i (j + t)
objects_more l st t d i j no_more s p = one_more s p no_more
objects_more l st t d i j (one_more s₀ p₀ o) s p = one_more s₀ p₀ (objects_more l st t d (i + t) j o s p)

-- the first of them
pub record Next (l : List ℕ) (st : State) (t d i to : ℕ) : Type 0 where
  pub stands : true ≡ stands_at l i t d
  pub passes : own_verdict 7 (head_of 7 (drop i l)) st ≡ no_fault
  pub rest : Objects l st t d (i + t) to

pub objects_next : (l : List ℕ) (st : State) (t d i to : ℕ) → Objects l st t d i to → i < to → Next l st t d i to
objects_next l st t d i to no_more q = absurd (omega arith)
objects_next l st t d i to (one_more s p o) q = record { stands = sym s; passes = p; rest = o }

-- one more of them, by the loop that judges
module _ (l : List ℕ) (ch : Chip) (t d i : ℕ) (hd : Header ch 7 d) (et : t ≡ total_of 7 d) (f : i ≤ length l) (s : Bool)
    (es : s ≡ stands_at l i t d) (y : s ≡ true) where
  judged_fits : t ≤ length l - i
  judged_fits = stands_fits l i t d s es y

  pub judged_own : i + own_dwords 7 ≤ length l
  judged_own = let z = own_in_total 7 d (total_of 7 d) hd.allowed in let p = total_pos 7 d in let w = judged_fits in omega arith

  pub judged_first : d ≡ get_or l i 0
  judged_first = stands_same l i t d s es y

  pub judged_inside : i + t ≤ length l
  judged_inside = let p = total_pos 7 d in let w = judged_fits in omega arith

  pub judged_less : length l - (i + t) < length l - i
  judged_less = let p = total_pos 7 d in let w = judged_fits in omega arith

  pub judged_more : (st : State) (from : ℕ) → Objects l st t d from i → (h : List ℕ) → h ≡ head_of 7 (drop i l) → (v : Bool) → Vouches 7 h st v → v ≡ true
      → Objects l st t d from (i + t)
  judged_more st from os h eh v vs e =
      objects_more l st t d from i os (sym es ∙ y) (ap (λ (x : List ℕ). own_verdict 7 x st) (sym eh) ∙ vs.passes e)

-- what an OBJECT sets no row asks of another
judged_after : (h x : List ℕ) (st : State) → own_verdict 7 x (state_after 7 h st) ≡ own_verdict 7 x st
unfolding own_verdict state_after
judged_after h x st = refl

-- and by the loop that writes their records
module _ (l : List ℕ) (c₀ : Progress) (i₀ : ℕ) (r₀ : List ℕ) (st₀ st : State) (at i : ℕ) (r : List ℕ) (d t to : ℕ)
    (kept : Kept l c₀ i₀ r₀ (between st at) i r) (hd : Header st₀.chip 7 d) (ec : st.chip ≡ st₀.chip) (et : t ≡ total_of 7 d)
    (alike : (x : List ℕ) → own_verdict 7 x st ≡ own_verdict 7 x st₀) where
  module _ (x : Next l st₀ t d i to) where
    pub next_own : i + own_dwords 7 ≤ length l
    next_own = again_own l c₀ i₀ r₀ st at i r 7 d t st₀.chip kept hd ec et true x.stands refl

    pub next_first : d ≡ get_or l i 0
    next_first = again_first l c₀ i₀ r₀ st at i r 7 d t st₀.chip kept hd ec et true x.stands refl

    pub next_at : at + t ≤ 16384
    next_at = again_at l c₀ i₀ r₀ st at i r 7 d t st₀.chip kept hd ec et true x.stands refl

    pub next_i : i + t ≤ length l
    next_i = again_i l c₀ i₀ r₀ st at i r 7 d t st₀.chip kept hd ec et true x.stands refl

    pub next_less : length l - (i + t) < length l - i
    next_less = again_less l c₀ i₀ r₀ st at i r 7 d t st₀.chip kept hd ec et true x.stands refl

    module _ (h : List ℕ) (eh : h ≡ head_of 7 (drop i l)) (next : State) (en : next ≡ state_after 7 h st) where
      pub next_chip : next.chip ≡ st₀.chip
      next_chip = again_chip l c₀ i₀ r₀ st at i r 7 d t st₀.chip kept hd ec et true x.stands refl h eh next en

      pub next_alike : (y : List ℕ) → own_verdict 7 y next ≡ own_verdict 7 y st₀
      next_alike y = ap (own_verdict 7 y) en ∙ judged_after h y st ∙ alike y

      pub next_kept : (r' : List ℕ) → r' ≡ fitted r st.commands (record_of (command_of 7 at t h st))
          → Kept l c₀ i₀ r₀ (between next (at + t)) (i + t) r'
      next_kept r' er =
          again_kept l c₀ i₀ r₀ st at i r 7 d t st₀.chip kept hd ec et true x.stands refl h eh next en true r'
          (record { passes = λ e. alike h ∙ ap (λ (y : List ℕ). own_verdict 7 y st₀) eh ∙ x.passes }) refl er

pub open_ready : (l : List ℕ) (c : Progress) (i : ℕ) → Ready l i c → c.stop ≡ 0 → c.got ≡ 0 → Ready l i (between c.st c.place)
open_ready l c i rd o g =
    let s = rd.sound in
    let a = s.come o in
    record { inside = rd.inside; few = rd.few; sound = record { come = λ e. omega arith; commands = λ e. s.commands o; objects = λ e. s.objects o } }

-- a reading between two commands does not see what it held of own dwords before
module _ (l : List ℕ) (c : Progress) (i : ℕ) (r : List ℕ) (rd : Ready l i c) (q : i < length l) (o : c.stop ≡ 0) (g : c.got ≡ 0) where
  abbrev b : Progress
  b = between c.st c.place

  alike : run c (drop i l) ≡ run b (drop i l)
  alike =
      let d = get_or l i 0 in
      let e = drop-cons l i 0 q in
      ap (run c) e ∙ run_step c d (drop (suc i) l) o
      ∙ ap (λ (t : Bool). run_from c.st c.place (cond t (beginning c.st d) (come c.st (gathered c.st c.own c.got d) (c.got + 1))) (drop (suc i) l))
      (eq-eqb c.got 0 g)
      ∙ sym (ap (run b) e ∙ run_step b d (drop (suc i) l) refl)

  open_leaves : leaves_from l i b r ≡ leaves_from l i c r
  open_leaves = stage_same c b (drop i l) (drop i l) refl alike r

  module _ (c₁ : Progress) (j : ℕ) (r₁ : List ℕ) (k : Kept l b i r c₁ j r₁) where
    pub turn_went : (c₂ : Progress) (m : ℕ) (r₂ : List ℕ) → Went l c₁ j r₁ c₂ m r₂ → Went l c i r c₂ m r₂
    turn_went c₂ m r₂ w =
        let x = k.forth in
        let y = w.on in
        record {
          on = omega arith;
          kept = record { forth = omega arith; ready = w.kept.ready; leaves = w.kept.leaves ∙ k.leaves ∙ open_leaves };
        }

    pub turn_end : (c₂ : Progress) → c₂ ≡ c₁ → length l ≤ j → Went l c i r c₂ j r₁
    turn_end c₂ e p =
        subst (λ (x : Progress). Went l c i r x j r₁) (sym e)
        (record { on = omega arith; kept = record { forth = k.forth; ready = k.ready; leaves = k.leaves ∙ open_leaves } })

pub ruleset turn_laws = (turn_went, turn_end)

-- the loop over the chunk
module _ (l : List ℕ) (c₀ : Progress) (i₀ : ℕ) (r₀ : List ℕ) (c : Progress) (i : ℕ) (r : List ℕ) (k : Kept l c₀ i₀ r₀ c i r) where
  pub run_halted : (c.stop ≡ 0 → ⊥) → stage c r ≡ stage_after (stage c₀ r₀) (drop i₀ l)
  run_halted n = sym (stage_stays c r n (drop i l)) ∙ k.leaves

  pub run_done : length l ≤ i → stage c r ≡ stage_after (stage c₀ r₀) (drop i₀ l)
  unfolding stage_after
  run_done p = sym (ap (stage_after (stage c r)) (drop_of_length-le l p)) ∙ k.leaves

pub ruleset run_laws = (run_halted, run_done)

-- where some commands lead on
module _ (l : List ℕ) (c : Progress) (i : ℕ) (r r' : List ℕ) where
  pub led_then : (x : Reached) (t : Bool) (o : Option Reached) → Kept l c i r (between x.st x.at) x.next r' → (t ≡ true → i < x.next)
      → (t ≡ false → r' ≡ r) → o ≡ then_some t x → LedOn l c i r o r'
  led_then x true o k p q e = subst (λ (y : Option Reached). LedOn l c i r y r') (sym e) (record { on = p refl; kept = k })
  led_then x false o k p q e = subst (λ (y : Option Reached). LedOn l c i r y r') (sym e) (q refl)

  pub led_some : (o : Option Reached) (x : Reached) → o ≡ Some x → LedOn l c i r o r' → Went l c i r (between x.st x.at) x.next r'
  led_some o x e w = subst (λ (y : Option Reached). LedOn l c i r y r') e w

  pub led_none : (o : Option Reached) → o ≡ None → LedOn l c i r o r' → r' ≡ r
  led_none o e w = subst (λ (y : Option Reached). LedOn l c i r y r') e w

-- every turn of the loops gets on
pub kept_less : (l : List ℕ) (c : Progress) (i : ℕ) (r : List ℕ) (c' : Progress) (j : ℕ) (r' : List ℕ) → Kept l c i r c' j r' → (j ≡ i → ⊥) → i < length l
    → length l - j < length l - i
kept_less l c i r c' j r' k n q = let a = k.forth in let b = k.ready.inside in omega arith

pub went_less : (l : List ℕ) (c : Progress) (i : ℕ) (r : List ℕ) (c' : Progress) (j : ℕ) (r' : List ℕ) → Went l c i r c' j r' → i < length l
    → length l - j < length l - i
went_less l c i r c' j r' w q = let a = w.on in omega arith
