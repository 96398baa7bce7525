-- How far reading comes and the record buffer, together: what the commands that pass leave. Assumes nothing.
use mathlib.Core.Path.{◌≡◌, refl, sym, ap, ap₂, ◌∙◌}
use mathlib.Core.Bool.{Bool, true, false, cond}
use Prim.Native.Nat.{ℕ, ◌+◌}
use native.Mathlib.Omega.{arith}
use mathlib.Core.List.{List, [], ◌∷◌, ◌++◌}
use lib.ListN.{length}
use lib.Dec.{eqb}
use borrow.Author.Tests.{ne_eqb, eqb-false}
use Rattle.laws.proofs.Choices.{by_test}
use Rattle.command.specs.declared.State.{State}
use Rattle.command.specs.Order.{Command, state_after}
use Rattle.progress.specs.declared.Progress.{Progress}
use Rattle.progress.specs.Steps.{Change, fault, unfinished, passes, change_of, after_change, written_by, Stage, stage, by_change, step_on, stage_after}
use Rattle.progress.specs.Fitting.{written_fit}
use Rattle.progress.proofs.Runs.{Run, ran, passing, run, run_from}

pub stage_append : (x y : List ℕ) (s : Stage) → stage_after s (x ++ y) ≡ stage_after (stage_after s x) y
unfolding stage_after
stage_append [] y s = refl
stage_append (d ∷ x) y s = stage_append x y (step_on s d)

-- a reading that has stopped changes nothing
module _ (c : Progress) (r : List ℕ) (n : c.stop ≡ 0 → ⊥) where
  step_stays : (d : ℕ) → step_on (stage c r) d ≡ stage c r
  unfolding step_on
  step_stays d = simp (ne_eqb c.stop 0 n)

  pub stage_stays : (l : List ℕ) → stage_after (stage c r) l ≡ stage c r
  unfolding stage_after
  stage_stays [] = refl
  stage_stays (d ∷ ds) = ap (λ (s : Stage). stage_after s ds) (step_stays d) ∙ stage_stays ds

event_written : (st : State) (at : ℕ) (e : Change) (cs : List Command) (r : List ℕ) →
    written_fit cs (after_change st at e).st.commands (written_by st at e r) ≡ written_fit (passing st at e cs) st.commands r
unfolding written_fit after_change written_by state_after
event_written st at (fault m s) cs r = refl
event_written st at (unfinished h g) cs r = refl
event_written st at (passes h) cs r = refl

-- what a run leaves
abbrev leaves : Progress → List ℕ → Run → Stage
leaves c r x = stage x.progress (written_fit x.passed c.st.commands r)

leaves_event : (c : Progress) (r : List ℕ) (e : Change) (x : Run) →
    leaves (after_change c.st c.place e) (written_by c.st c.place e r) x ≡ leaves c r (ran (passing c.st c.place e x.passed) x.progress)
leaves_event c r e x = ap (stage x.progress) (event_written c.st c.place e x.passed r)

-- LAW: the dwords one by one leave the records of the commands that pass
pub stage_run : (l : List ℕ) (c : Progress) (r : List ℕ) → stage_after (stage c r) l ≡ leaves c r (run c l)
unfolding stage_after step_on run written_fit
stage_run [] c r = refl
stage_run (d ∷ ds) c r = go (eqb c.stop 0) refl (stage_run ds (after_change c.st c.place (change_of c d)) (written_by c.st c.place (change_of c d) r))
  where
    e : Change
    e = change_of c d

    c' : Progress
    c' = after_change c.st c.place e

    r' : List ℕ
    r' = written_by c.st c.place e r

    go : (t : Bool) → eqb c.stop 0 ≡ t → stage_after (stage c' r') ds ≡ leaves c' r' (run c' ds) →
        stage_after (cond t (stage c' r') (stage c r)) ds ≡ leaves c r (cond t (ran (passing c.st c.place e (run c' ds).passed) (run c' ds).progress) (ran [] c))
    go true q ih = ih ∙ leaves_event c r e (run c' ds)
    go false q ih = stage_stays c r (eqb-false c.stop 0 q) ds

-- LAW: dwords that come to an event are that event, then the rest
pub stage_event : (c : Progress) (l l' : List ℕ) (e : Change) → run c l ≡ run_from c.st c.place e l' → (r : List ℕ)
    → stage_after (by_change c.st c.place e r) l' ≡ stage_after (stage c r) l
stage_event c l l' e q r =
    stage_run l' (after_change c.st c.place e) (written_by c.st c.place e r)
    ∙ leaves_event c r e (run (after_change c.st c.place e) l')
    ∙ sym (stage_run l c r ∙ ap (leaves c r) q)

-- those after which no command more has passed
pub stage_same : (c c' : Progress) (l l' : List ℕ) → c'.st.commands ≡ c.st.commands → run c l ≡ run c' l' → (r : List ℕ)
    → stage_after (stage c' r) l' ≡ stage_after (stage c r) l
stage_same c c' l l' n q r =
    stage_run l' c' r
    ∙ ap₂ (λ (i : ℕ) (x : Run). stage x.progress (written_fit x.passed i r)) n (sym q)
    ∙ sym (stage_run l c r)

-- what a batch is judged for stays
module _ {A : Type 0} (f : State → A) (kept : (k : ℕ) (h : List ℕ) (st : State) → f (state_after k h st) ≡ f st) where
  event_kept : (st : State) (at : ℕ) (e : Change) → f (after_change st at e).st ≡ f st
  unfolding after_change
  event_kept st at (fault m s) = refl
  event_kept st at (unfinished h g) = refl
  event_kept st at (passes h) = kept _ h st

  pub run_kept : (l : List ℕ) (c : Progress) → f (run c l).progress.st ≡ f c.st
  unfolding run
  run_kept [] c = refl
  run_kept (d ∷ ds) c =
      by_test (eqb c.stop 0)
      (λ t. simp t (run_kept ds (after_change c.st c.place (change_of c d)) ∙ event_kept c.st c.place (change_of c d)))
      (λ t. simp t)

-- commands are counted as they pass
event_commands : (st : State) (at : ℕ) (e : Change) (cs : List Command) → (after_change st at e).st.commands + length cs ≡ st.commands + length (passing st at e cs)
unfolding after_change state_after
event_commands st at (fault m s) cs = refl
event_commands st at (unfinished h g) cs = refl
event_commands st at (passes h) cs = omega arith

pub run_commands : (l : List ℕ) (c : Progress) → (run c l).progress.st.commands ≡ c.st.commands + length (run c l).passed
unfolding run
run_commands [] c = let e : c.st.commands ≡ c.st.commands + 0 = omega arith in e
run_commands (d ∷ ds) c =
    by_test (eqb c.stop 0)
    (λ t. let c' = after_change c.st c.place (change_of c d) in
    simp t (run_commands ds c' ∙ event_commands c.st c.place (change_of c d) (run c' ds).passed))
    (λ t. let e : c.st.commands ≡ c.st.commands + 0 = omega arith in simp t e)
