-- How reading can stop: at a refusal of rows 3 to 9, or at END. Assumes nothing.
use mathlib.Core.Path.{◌≡◌, refl, sym, subst}
use mathlib.Core.Bool.{Bool, true, false, cond, ◌&&◌, ◌||◌}
use Prim.Native.Nat.{ℕ, ◌+◌}
use mathlib.Core.List.{List, [], ◌∷◌}
use lib.Dec.{T, ltb, leb, eqb}
use Rattle.laws.proofs.Choices.{by_test}
use Rattle.command.specs.declared.State.{State}
use Rattle.command.specs.Kinds.{kind_of, total_of}
use Rattle.std.specs.Prelude.{Ok, Err}
use Rattle.judge.specs.Refusals.{Verdict, judge_of, header_verdict}
use Rattle.judge.proofs.Judged.{judge_header, in_range, fault_number}
use Rattle.progress.specs.declared.Progress.{Progress}
use Rattle.progress.specs.Steps.{kind_in, total_in, alone, gathered, Change, fault, unfinished, passes, judged, settled, come, begun, beginning, change_of, at_end, after_change}
use Rattle.progress.proofs.Runs.{run}

-- reading goes on, or has stopped so
abbrev pub stop_read : ℕ → Bool
stop_read n = eqb n 0 || (leb 3 n && leb n 9) || eqb n at_end

abbrev Known : Change → Type 0
Known (fault m s) = T (leb 3 m && leb m 9)
Known (unfinished h g) = Unit
Known (passes h) = Unit

known_judged : (v : Verdict) (h : List ℕ) → T (in_range v) → Known (judged v h)
known_judged (Err e) h f = f
known_judged (Ok u) h f = tt

known_come : (st : State) (h : List ℕ) (g : ℕ) → Known (come st h g)
unfolding come
known_come st h g = go (ltb g (total_in st h))
  where
    go : (t : Bool) → Known (cond t (unfinished h g) (settled st h))
    go true = tt
    go false = known_judged (judge_of (kind_in st h) (total_in st h) h st) h (fault_number (kind_in st h) (total_in st h) h st)

known_begun : (st : State) (d : ℕ) (v : Verdict) → header_verdict (kind_of st.chip d) d (total_of (kind_of st.chip d) d) ≡ v → Known (begun v st d)
known_begun st d (Err f) e =
    let k = kind_of st.chip d in
    let t = total_of k d in
    subst (λ (x : Verdict). T (in_range x)) (judge_header k t (d ∷ []) st f e) (fault_number k t (d ∷ []) st)
known_begun st d (Ok u) e = known_come st (alone d) 1

known_event : (c : Progress) (d : ℕ) → Known (change_of c d)
unfolding beginning
known_event c d = go (eqb c.got 0)
  where
    go : (t : Bool) → Known (cond t (beginning c.st d) (come c.st (gathered c.st c.own c.got d) (c.got + 1)))
    go true = known_begun c.st d (header_verdict (kind_of c.st.chip d) d (total_of (kind_of c.st.chip d) d)) refl
    go false = known_come c.st (gathered c.st c.own c.got d) (c.got + 1)

either : (a b c : Bool) → T b → a || b || c ≡ true
either true b c t = refl
either false true c t = refl
either false false c t = absurd t

known_after : (st : State) (at : ℕ) (e : Change) → Known e → stop_read (after_change st at e).stop ≡ true
unfolding after_change
known_after st at (fault m s) f = either (eqb m 0) (leb 3 m && leb m 9) (eqb m at_end) f
known_after st at (unfinished h g) f = refl
known_after st at (passes h) f = go (eqb (kind_in st h) 2)
  where
    go : (t : Bool) → stop_read (cond t at_end 0) ≡ true
    go true = refl
    go false = refl

-- a reading that has stopped stays as it is
pub stop_same : (l : List ℕ) (c : Progress) → eqb c.stop 0 ≡ false → (run c l).progress ≡ c
unfolding run
stop_same [] c e = refl
stop_same (d ∷ ds) c e = simp e

-- LAW: what was so stays so
pub stop_kept : (l : List ℕ) (c : Progress) → stop_read c.stop ≡ true → stop_read (run c l).progress.stop ≡ true
unfolding run
stop_kept [] c h = h
stop_kept (d ∷ ds) c h =
    by_test (eqb c.stop 0)
    (λ t. simp t (stop_kept ds (after_change c.st c.place (change_of c d)) (known_after c.st c.place (change_of c d) (known_event c d))))
    (λ t. subst (λ (p : Progress). stop_read p.stop ≡ true) (sym (stop_same (d ∷ ds) c t)) h)
