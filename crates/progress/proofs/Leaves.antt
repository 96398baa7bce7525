-- What the steps of one command show, over plain values. Assumes nothing.
use mathlib.Core.Path.{◌≡◌, refl, sym, ap, ap₂, subst, ◌∙◌}
use mathlib.Core.Bool.{Bool, true, false, cond}
use Prim.Native.Nat.{ℕ, ◌+◌, ◌*◌, ◌/◌, ◌^◌, ◌<◌, ◌≤◌}
use native.Mathlib.Omega.{arith}
use native.Mathlib.Nat.{mod-lt}
use mathlib.Core.List.{List, [], ◌∷◌}
use lib.ListN.{length, get_or, set}
use lib.Dec.{T, ltb, leb, eqb, lit<}
use borrow.Author.Tests.{lt-ltb, le-ltb, leb-true, eq-eqb, ne_eqb}
use Rattle.laws.proofs.Choices.{by_cond}
use Rattle.laws.specs.BitRanges.{field}
use Rattle.words.specs.Dwords.{Buffer, lent_buffer, put_in}
use Rattle.command.specs.declared.State.{State}
use Rattle.command.specs.Kinds.{length_field, length_allowed, kind_of, total_of}
use Rattle.command.specs.Order.{command_of, state_after}
use Rattle.std.specs.Prelude.{Ok, Err}
use Rattle.judge.specs.declared.Fault.{Fault}
use Rattle.judge.specs.Refusals.{Verdict, no_fault, judge_of, header_verdict, own_verdict}
use Rattle.chips.specs.Refusals.{number_of_refusal}
use Rattle.judge.proofs.Verdicts.{plain}
use Rattle.judge.proofs.Judged.{judge_own, judge_header, is_early, fault_early}
use Rattle.record.specs.Record.{record_of}
use Rattle.records.specs.Records.{put_words}
use Rattle.records.proofs.Buffers.{words_view}
use Rattle.progress.specs.declared.Progress.{Progress}
use Rattle.progress.specs.Steps.{kind_in, total_in, Change, fault, passes, judged, settled, between, after_change, fitted, Stage, stage, by_change, written_by}
use Rattle.progress.specs.Parts.{Counts}

-- records
pub store_none : (r : List ℕ) (i : ℕ) (w : List ℕ) → length r / 16 ≤ i → r ≡ fitted r i w
unfolding fitted
store_none r i w q = simp (le-ltb i (length r / 16) q)

pub store_put : (r r' : List ℕ) (i : ℕ) (w : List ℕ) → i < length r / 16
    → lent_buffer (λ l. l) r' ≡ put_words (put_in set) (lent_buffer (λ l. l) r) i w 16 → r' ≡ fitted r i w
unfolding fitted
store_put r r' i w q e =
    simp (lt-ltb i (length r / 16) q)
    (ap (λ (x : Buffer ℕ). x.view) e ∙ words_view set (lent_buffer (λ l. l) r) i w 16)

pub store_room : (r : List ℕ) (i : ℕ) → i < length r / 16 → 16 * i + 16 ≤ length r
store_room r i q = omega arith

pub ruleset stores = (store_none, store_put, store_room)

pub record_as : (r r' : List ℕ) (i : ℕ) (w w' : List ℕ) → w ≡ w' → r' ≡ fitted r i w → r' ≡ fitted r i w'
record_as r r' i w w' e q = q ∙ ap (fitted r i) e

-- rows 3 to 9
module _ (k t : ℕ) (h : List ℕ) (st : State) (w : Verdict) (ew : w ≡ header_verdict k (get_or h 0 0) t) where
  pub judge_fault : (f : Fault) → w ≡ Err f → (r : Verdict) → r ≡ Err f → r ≡ judge_of k t h st
  judge_fault f e r er = er ∙ sym (judge_header k t h st f (sym ew ∙ e))

  pub judge_passed : (u : Unit) → w ≡ Ok u → (v : Verdict) → v ≡ own_verdict k h st → v ≡ judge_of k t h st
  judge_passed u e v q = q ∙ sym (judge_own k t h st (sym ew ∙ e))

pub ruleset judges = (judge_fault, judge_passed)

-- a total is not large
pub total_small : (k d : ℕ) → total_of k d ≤ 65537
unfolding total_of field
total_small k d = by_cond (λ (n : ℕ). n ≤ 65537) (ltb k 3) 1 (length_field d + 2) (λ _. omega arith) (λ _. let z : length_field d < 2 ^ 16 = mod-lt (d / 2 ^ 0) (lit< tt) in omega arith)

pub place_fits : (st : State) (at k d t : ℕ) → Counts st at → t ≡ total_of k d → at + t < 2 ^ 32
place_fits st at k d t q e = let z = total_small k d in let y = q.limit in omega arith

-- a reading that stops so
abbrev pub stop_with : Progress → ℕ → Progress
stop_with c x = record { st = c.st; own = c.own; place = c.place; got = c.got; stop = x }

-- a command that passes
module _ (st : State) (at : ℕ) (h : List ℕ) (k t : ℕ) (ek : k ≡ kind_in st h) (et : t ≡ total_in st h) (next : State) (r r' : List ℕ) (c : Progress)
    (en : next ≡ state_after k h st) (er : r' ≡ fitted r st.commands (record_of (command_of k at t h st))) (ec : c ≡ between next (at + t)) where
  wrote : r' ≡ written_by st at (passes h) r
  unfolding written_by
  wrote = er ∙ ap (fitted r st.commands) (ap₂ (λ (x y : ℕ). record_of (command_of x at y h st)) ek et)

  after_is : (x : ℕ) → x ≡ cond (eqb k 2) 255 0 → stop_with c x ≡ after_change st at (passes h)
  unfolding after_change
  after_is x e =
      ap (λ (y : ℕ). stop_with c y) (e ∙ ap (λ (y : ℕ). cond (eqb y 2) 255 0) ek)
      ∙ ap (λ (d : Progress). record { st = d.st; own = d.own; place = d.place; got = d.got; stop = cond (eqb (kind_in st h) 2) 255 0 }) ec
      ∙ ap₂ (λ (s : State) (p : ℕ). record { st = s; own = 0 ∷ 0 ∷ 0 ∷ 0 ∷ 0 ∷ 0 ∷ 0 ∷ 0 ∷ []; place = p; got = 0; stop = cond (eqb (kind_in st h) 2) 255 0 })
      (en ∙ ap (λ (y : ℕ). state_after y h st) ek) (ap (λ (y : ℕ). at + y) et)

  pub pass_end : k ≡ 2 → stage (stop_with c 255) r' ≡ by_change st at (passes h) r
  pass_end e = ap₂ stage (after_is 255 (simp (eq-eqb k 2 e))) wrote

  pub pass_on : (k ≡ 2 → ⊥) → stage c r' ≡ by_change st at (passes h) r
  pass_on n = ap₂ stage (ap (λ (y : ℕ). stop_with c y) (ap (λ (d : Progress). d.stop) ec) ∙ after_is 0 (simp (ne_eqb k 2 n))) wrote

pub ruleset passed_laws = (pass_end, pass_on)

-- a fault's place is one of the command's first dwords
pub skip_small : (st : State) (at : ℕ) (h : List ℕ) (k t : ℕ) (v : Verdict) → v ≡ judge_of k t h st → (f : Fault) → Counts st at → v ≡ Err f → at + f.skip < 2 ^ 32
skip_small st at h k t v ev f q e =
    let z : T (leb f.skip 7) = subst (λ (x : Verdict). T (is_early x)) (sym ev ∙ e) (fault_early k t h st) in
    let y : f.skip ≤ 7 = early f.skip z in
    let w = q.limit in omega arith
  where
    truth : (b : Bool) → T b → b ≡ true
    truth true t = refl
    truth false t = absurd t

    early : (n : ℕ) → T (leb n 7) → n ≤ 7
    early n t = leb-true n 7 (truth (leb n 7) t)

-- a whole command, by its verdict
module _ (st : State) (at : ℕ) (h : List ℕ) (d k t : ℕ) (ed : d ≡ get_or h 0 0) (ek : k ≡ kind_of st.chip d) (et : t ≡ total_of k d) where
  pub kind_is : k ≡ kind_in st h
  kind_is = ek ∙ ap (kind_of st.chip) ed

  pub total_is : t ≡ total_in st h
  total_is = et ∙ ap₂ total_of kind_is ed

  module _ (v : Verdict) (ev : v ≡ judge_of k t h st) where
    verdict_is : settled st h ≡ judged v h
    verdict_is = ap (λ (x : Verdict). judged x h) (sym (ev ∙ ap₂ (λ (x y : ℕ). judge_of x y h st) kind_is total_is))

    pub settle_fault : (f : Fault) (n : ℕ) (r : List ℕ) (c : Progress) → v ≡ Err f → n ≡ number_of_refusal f.refusal → c ≡ after_change st at (fault n f.skip)
        → stage c r ≡ by_change st at (settled st h) r
    unfolding written_by
    settle_fault f n r c e en ec =
        ap (λ (x : Progress). stage x r) (ec ∙ ap (λ (y : ℕ). after_change st at (fault y f.skip)) en) ∙ ap (λ (x : Change). by_change st at x r) (sym (verdict_is ∙ ap (λ (x : Verdict). judged x h) e))

    pub settle_passed : (u : Unit) (s : Stage) (r : List ℕ) → v ≡ Ok u → s ≡ by_change st at (passes h) r → s ≡ by_change st at (settled st h) r
    settle_passed u s r e q = q ∙ ap (λ (y : Change). by_change st at y r) (sym (verdict_is ∙ ap (λ (y : Verdict). judged y h) e))

pub ruleset settles = (kind_is, total_is, settle_fault, settle_passed)

-- END has no rows 6 to 9
module _ (st : State) (at : ℕ) (h : List ℕ) (e : 2 ≡ kind_in st h) where
  end_total : 1 ≡ total_in st h
  unfolding total_of
  end_total = ap (λ (k : ℕ). total_of k (get_or h 0 0)) e

  end_verdict : judge_of (kind_in st h) (total_in st h) h st ≡ no_fault
  unfolding header_verdict length_allowed total_of
  end_verdict =
      ap₂ (λ (k t : ℕ). judge_of k t h st) (sym e) (sym end_total) ∙ judge_own 2 1 h st refl
      ∙ sym (plain 2 (λ x. omega arith) (λ x. omega arith) (λ x. omega arith) (λ x. omega arith) (λ x. omega arith) (λ x. omega arith) h st)

  pub end_settled : (next : State) (c : Progress) (r r' : List ℕ) → next ≡ state_after 2 h st → c ≡ between next (at + 1)
      → r' ≡ fitted r st.commands (record_of (command_of 2 at 1 h st)) → stage (stop_with c 255) r' ≡ by_change st at (settled st h) r
  end_settled next c r r' en ec er =
      pass_end st at h 2 1 e end_total next r r' c en er ec refl
      ∙ ap (λ (v : Verdict). by_change st at (judged v h) r) (sym end_verdict)

-- a reading with the same numbers
pub same_as : (c : Progress) (s : State) (o : List ℕ) → s ≡ c.st → o ≡ c.own
    → record { st = s; own = o; place = c.place; got = c.got; stop = c.stop } ≡ c
same_as c s o es eo = ap₂ (λ (x : State) (y : List ℕ). record { st = x; own = y; place = c.place; got = c.got; stop = c.stop }) es eo
