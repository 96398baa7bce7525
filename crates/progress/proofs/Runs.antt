-- Dwords one after the other: the commands that pass, and how far reading comes. Several dwords at once. Assumes nothing.
use mathlib.Core.Path.{◌≡◌, refl, sym, ap, ap₂, ◌∙◌}
use mathlib.Core.Bool.{Bool, cond}
use Prim.Native.Nat.{ℕ, zero, suc, ◌+◌, ◌-◌, ◌<◌, ◌≤◌}
use native.Mathlib.Omega.{arith}
use mathlib.Core.List.{List, [], ◌∷◌, ◌++◌, append-nil}
use lib.ListN.{length, get_or, take, drop, take-append-drop}
use lib.Seq.{length-take-le}
use lib.Dec.{ltb, eqb}
use borrow.Author.Tests.{lt-ltb, le-ltb, ltb-true, ltb-false, eq-eqb, ne_eqb}
use Rattle.laws.proofs.Choices.{by_test}
use Rattle.command.specs.declared.State.{State}
use Rattle.command.specs.Kinds.{kind_of, total_of, head_of}
use Rattle.command.specs.Order.{Command}
use Rattle.command.proofs.Heads.{head_same}
use Rattle.std.specs.Prelude.{Err}
use Rattle.chips.specs.Refusals.{number_of_refusal}
use Rattle.judge.specs.declared.Fault.{Fault}
use Rattle.judge.specs.Refusals.{Verdict, no_fault, judge_of, header_verdict}
use Rattle.judge.proofs.Judged.{own_in_total, total_pos}
use Rattle.progress.specs.declared.Progress.{Progress}
use Rattle.progress.specs.Steps.{total_in, alone, gathered, Change, fault, faulted, unfinished, passes, judged, settled, come, begun, beginning, change_of, between, after_change, whole}
use Rattle.progress.specs.Parts.{dwords_left}
use Rattle.progress.proofs.Gathers.{gathered_all, first_head, gather_all, total_kept}

pub record Run : Type 0 where
  pub passed : List Command
  pub progress : Progress

abbrev pub ran : List Command → Progress → Run
ran cs c = record { passed = cs; progress = c }

-- the command that passes with an event, before others
abbrev pub passing : State → ℕ → Change → List Command → List Command
passing st at (fault m s) cs = cs
passing st at (unfinished h g) cs = cs
passing st at (passes h) cs = whole st at h ∷ cs

abbrev pub and_then : State → ℕ → Change → Run → Run
and_then st at e x = ran (passing st at e x.passed) x.progress

unfoldable pub run : Progress → List ℕ → Run
run c [] = ran [] c
run c (d ∷ ds) =
    cond (eqb c.stop 0) (and_then c.st c.place (change_of c d) (run (after_change c.st c.place (change_of c d)) ds)) (ran [] c)

abbrev pub run_from : State → ℕ → Change → List ℕ → Run
run_from st at e ds = and_then st at e (run (after_change st at e) ds)

pub run_step : (c : Progress) (d : ℕ) (ds : List ℕ) → c.stop ≡ 0 → run c (d ∷ ds) ≡ run_from c.st c.place (change_of c d) ds
unfolding run
run_step c d ds o = simp (eq-eqb c.stop 0 o)

pub run_stopped : (c : Progress) → (c.stop ≡ 0 → ⊥) → (l : List ℕ) → run c l ≡ ran [] c
unfolding run
run_stopped c n [] = refl
run_stopped c n (d ∷ ds) = simp (ne_eqb c.stop 0 n)

-- in a command at a place, with own dwords h, of which g dwords have come
module _ (st : State) (at : ℕ) where
  abbrev pub held : List ℕ → ℕ → Progress
  held h g = record { st = st; own = h; place = at; got = g; stop = 0 }

  -- g dwords have come of a command, and it is not whole
  come_short : (h : List ℕ) (g : ℕ) → g < total_in st h → come st h g ≡ unfinished h g
  unfolding come
  come_short h g q = simp (lt-ltb g (total_in st h) q)

  come_whole : (h : List ℕ) (g : ℕ) → total_in st h ≤ g → come st h g ≡ settled st h
  unfolding come
  come_whole h g q = simp (le-ltb g (total_in st h) q)

  run_come : (h : List ℕ) (g : ℕ) (ds : List ℕ) → g < total_in st h → run_from st at (come st h g) ds ≡ run (held h g) ds
  unfolding after_change
  run_come h g ds q = ap (λ (e : Change). run_from st at e ds) (come_short h g q)

  module _ (h : List ℕ) (g x : ℕ) (n : g ≡ 0 → ⊥) where
    held_step : (ds : List ℕ) → run (held h g) (x ∷ ds) ≡ run_from st at (come st (gathered st h g x) (g + 1)) ds
    held_step ds =
        run_step (held h g) x ds refl
        ∙ ap (λ (t : Bool). run_from st at (cond t (beginning st x) (come st (gathered st h g x) (g + 1))) ds) (ne_eqb g 0 n)

    held_more : (ds : List ℕ) → g + 1 < total_in st h → run (held h g) (x ∷ ds) ≡ run (held (gathered st h g x) (g + 1)) ds
    held_more ds q = held_step ds ∙ run_come (gathered st h g x) (g + 1) ds (let e = total_kept st h g x n in omega arith)

  -- LAW: dwords of a command that do not make it whole
  pub run_held : (q : List ℕ) (h : List ℕ) (g : ℕ) (ds : List ℕ) → (g ≡ 0 → ⊥) → g + length q < total_in st h
      → run (held h g) (q ++ ds) ≡ run (held (gathered_all st h g q) (g + length q)) ds
  unfolding gathered_all
  run_held [] h g ds n p = let e : g ≡ g + 0 = omega arith in ap (λ (m : ℕ). run (held h m) ds) e
  run_held (x ∷ q) h g ds n p =
      let e : g + 1 + length q ≡ g + suc (length q) = omega arith in
      let t = total_kept st h g x n in
      held_more h g x n (q ++ ds) (omega arith)
      ∙ run_held q (gathered st h g x) (g + 1) ds (λ z. omega arith) (omega arith)
      ∙ ap (λ (m : ℕ). run (held (gathered_all st (gathered st h g x) (g + 1) q) m) ds) e

  left_one : (t g : ℕ) → 1 ≡ dwords_left t g → t ≤ g + 1
  left_one t g e = by_test (ltb g t) (λ p. let y = ltb-true g t p in let z : 1 ≡ t - g = e ∙ simp p in omega arith) (λ p. let y = ltb-false g t p in omega arith)

  left_more : (t g n : ℕ) → suc (suc n) ≡ dwords_left t g → (g + 1 < t) × (suc n ≡ dwords_left t (g + 1))
  left_more t g n e =
      by_test (ltb g t)
      (λ p. let y = ltb-true g t p in let z : suc (suc n) ≡ t - g = e ∙ simp p in
      let w : g + 1 < t = omega arith in
      let v : suc n ≡ t - (g + 1) = omega arith in (w, simp (lt-ltb (g + 1) t w) v))
      (λ p. let z : suc (suc n) ≡ 1 = e ∙ simp p in absurd (omega arith))

  -- LAW: the dwords that make it whole
  pub run_whole : (q : List ℕ) (h : List ℕ) (g : ℕ) (ds : List ℕ) → (g ≡ 0 → ⊥) → length q ≡ dwords_left (total_in st h) g
      → run (held h g) (q ++ ds) ≡ run_from st at (settled st (gathered_all st h g q)) ds
  unfolding gathered_all
  run_whole [] h g ds n p = absurd (by_test (ltb g (total_in st h))
      (λ t. let y = ltb-true g (total_in st h) t in let z : 0 ≡ total_in st h - g = p ∙ simp t in omega arith) (λ t. let z : 0 ≡ 1 = p ∙ simp t in omega arith))
  run_whole (x ∷ []) h g ds n p =
      let t = total_kept st h g x n in
      let y = left_one (total_in st h) g p in
      held_step h g x n ds ∙ ap (λ (e : Change). run_from st at e ds) (come_whole (gathered st h g x) (g + 1) (omega arith))
  run_whole (x ∷ y ∷ q) h g ds n p =
      let t = total_kept st h g x n in
      let z = left_more (total_in st h) g (length q) p in
      held_more h g x n (y ∷ (q ++ ds)) z.0
      ∙ run_whole (y ∷ q) (gathered st h g x) (g + 1) ds (λ e. omega arith) (z.1 ∙ ap (λ (m : ℕ). dwords_left m (g + 1)) (sym t))

  -- from a command's first dword a on
  module _ (a : ℕ) where
    abbrev k : ℕ
    k = kind_of st.chip a

    abbrev t : ℕ
    t = total_of (kind_of st.chip a) a

    abbrev head : List ℕ → List ℕ
    head ds = head_of k (a ∷ ds)

    first_step : (ds : List ℕ) (v : Verdict) → header_verdict k a t ≡ v → run (between st at) (a ∷ ds) ≡ run_from st at (begun v st a) ds
    unfolding beginning
    first_step ds v e = run_step (between st at) a ds refl ∙ ap (λ (x : Verdict). run_from st at (begun x st a) ds) e

    -- LAW: rows 3 and 4 refuse it
    pub run_refused : (ds : List ℕ) (f : Fault) → header_verdict k a t ≡ Err f → (number_of_refusal f.refusal ≡ 0 → ⊥)
        → run (between st at) (a ∷ ds) ≡ ran [] (after_change st at (faulted f))
    unfolding after_change
    run_refused ds f e n = first_step ds (Err f) e ∙ run_stopped (after_change st at (faulted f)) n ds

    module _ (hp : header_verdict k a t ≡ no_fault) where
      first_held : (ds : List ℕ) → 1 < t → run (between st at) (a ∷ ds) ≡ run (held (alone a) 1) ds
      first_held ds q = first_step ds no_fault hp ∙ run_come (alone a) 1 ds q

      pub gathers : (q : List ℕ) → gathered_all st (alone a) 1 q ≡ head q
      gathers q = ap (λ (h : List ℕ). gathered_all st h 1 q) (first_head k a) ∙ gather_all st a q []

      -- what is after the command does not count among its own dwords
      pub head_part : (ds : List ℕ) (n : ℕ) → t ≤ suc n → head (take n ds) ≡ head ds
      head_part ds n q =
          let o = own_in_total k a t hp in
          head_same k (a ∷ take n ds) (a ∷ ds) (λ i p. first_same i (omega arith))
        where
          take_same : (l : List ℕ) (m i : ℕ) → i < m → get_or (take m l) i 0 ≡ get_or l i 0
          take_same [] zero i p = refl
          take_same [] (suc m) i p = refl
          take_same (x ∷ l) zero i p = absurd (omega arith)
          take_same (x ∷ l) (suc m) zero p = refl
          take_same (x ∷ l) (suc m) (suc i) p = take_same l m i (omega arith)

          first_same : (i : ℕ) → i < suc n → get_or (a ∷ take n ds) i 0 ≡ get_or (a ∷ ds) i 0
          first_same zero p = refl
          first_same (suc i) p = take_same ds n i (omega arith)

      -- LAW: the dwords that have come do not make it whole
      pub run_short : (ds : List ℕ) → suc (length ds) < t → run (between st at) (a ∷ ds) ≡ ran [] (held (head ds) (suc (length ds)))
      unfolding run
      run_short ds q =
          let e : 1 + length ds ≡ suc (length ds) = omega arith in
          first_held ds (omega arith)
          ∙ ap (run (held (alone a) 1)) (sym (append-nil ds))
          ∙ run_held ds (alone a) 1 [] (λ z. omega arith) (omega arith)
          ∙ ap₂ (λ (h : List ℕ) (g : ℕ). ran [] (held h g)) (gathers ds) e

      abbrev end : List ℕ → Change
      end ds = judged (judge_of k t (head ds) st) (head ds)

      pub settled_is : (ds : List ℕ) → settled st (head ds) ≡ end ds
      unfolding head_of
      settled_is ds = refl

      one_whole : (ds : List ℕ) → t ≡ 1 → run (between st at) (a ∷ ds) ≡ run_from st at (end ds) ds
      one_whole ds e =
          first_step ds no_fault hp
          ∙ ap (λ (x : Change). run_from st at x ds)
          (come_whole (alone a) 1 (omega arith) ∙ ap (settled st) (first_head k a ∙ head_part ds 0 (omega arith)) ∙ settled_is ds)

      more_whole : (ds : List ℕ) → 1 < t → t ≤ suc (length ds) → run (between st at) (a ∷ ds) ≡ run_from st at (end ds) (drop (t - 1) ds)
      more_whole ds q w =
          let n = t - 1 in
          let z : length (take n ds) ≡ dwords_left t 1 = length-take-le n ds (omega arith) ∙ sym (simp (lt-ltb 1 t q)) in
          first_held ds q
          ∙ ap (run (held (alone a) 1)) (sym (take-append-drop n ds))
          ∙ run_whole (take n ds) (alone a) 1 (drop n ds) (λ z. omega arith) z
          ∙ ap (λ (h : List ℕ). run_from st at (settled st h) (drop n ds)) (gathers (take n ds) ∙ head_part ds n (omega arith))
          ∙ ap (λ (x : Change). run_from st at x (drop n ds)) (settled_is ds)

      -- LAW: the whole command is there
      pub run_command : (ds : List ℕ) → t ≤ suc (length ds) → run (between st at) (a ∷ ds) ≡ run_from st at (end ds) (drop t (a ∷ ds))
      run_command ds w =
          let z = total_pos k a in
          by_test (ltb 1 t)
          (λ p. let y = ltb-true 1 t p in
          let e : suc (t - 1) ≡ t = omega arith in
          more_whole ds y w ∙ ap (λ (n : ℕ). run_from st at (end ds) (drop n (a ∷ ds))) e)
          (λ p. let y = ltb-false 1 t p in
          let e : t ≡ 1 = omega arith in
          one_whole ds e ∙ ap (λ (n : ℕ). run_from st at (end ds) (drop n (a ∷ ds))) (sym e))
