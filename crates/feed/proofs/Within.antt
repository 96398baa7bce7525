-- The commands that pass among the first dwords of a batch are those that end there. Assumes nothing.
use mathlib.Core.Path.{◌≡◌, refl, sym, ap, ap₂, ◌∙◌}
use mathlib.Core.Bool.{Bool, true, false, cond}
use Prim.Native.Nat.{ℕ, zero, suc, ◌+◌, ◌-◌, ◌<◌, ◌≤◌}
use native.Mathlib.Omega.{arith}
use mathlib.Core.List.{List, [], ◌∷◌, ◌++◌}
use lib.ListN.{length, take, length-take}
use lib.Seq.{take-append_seam}
use lib.Dec.{ltb, eqb}
use borrow.Author.Tests.{le-leb, lt-leb, ltb-true, ltb-false}
use Rattle.laws.proofs.Choices.{by_test}
use Rattle.chips.specs.declared.Target.{Target}
use Rattle.command.specs.declared.State.{State}
use Rattle.command.specs.Kinds.{kind_of, total_of, head_of}
use Rattle.command.specs.Order.{Command, command_of, state_of, state_after}
use Rattle.std.specs.Prelude.{Ok, Err}
use Rattle.chips.specs.declared.Refusal.TheVariants.{Truncated}
use Rattle.judge.specs.declared.Fault.{Fault}
use Rattle.judge.specs.Refusals.{Verdict, no_fault, judge_of, header_verdict, own_verdict}
use Rattle.judge.proofs.Judged.{total_pos}
use Rattle.reading.specs.Reading.{ended, Reading, reading, and_then, reading_of, after_verdict}
use Rattle.reading.specs.Turns.{walk, here}
use Rattle.reading.proofs.Walk.{reading_walk}
use Rattle.progress.proofs.Runs.{head_part}
use Rattle.progress.proofs.Fold.{refuses, judge_short, judge_whole}
use Rattle.feed.specs.Claims.{end_within, Complete}

-- what is passed by a verdict on a command, before a rest
abbrev passed_by : Verdict → Command → List Command → List Command
passed_by (Err f) c cs = []
passed_by (Ok u) c cs = cond (eqb c.kind 2) (c ∷ []) (c ∷ cs)

by_passed : (v : Verdict) (c : Command) (rest : Reading) → (after_verdict v c rest).passed ≡ passed_by v c rest.passed
by_passed (Err f) c rest = refl
by_passed (Ok u) c rest = go (eqb c.kind 2)
  where
    go : (t : Bool) → (cond t (reading (c ∷ []) (ended (c.place + 1))) (and_then c rest)).passed
        ≡ cond t (c ∷ []) (c ∷ rest.passed)
    go true = refl
    go false = refl

-- a command that ends past n, and what is after it
past_by : (v : Verdict) (c : Command) (cs : List Command) (n : ℕ) → n < c.place + c.total → end_within n cs ≡ [] → end_within n (passed_by v c cs) ≡ []
past_by (Err f) c cs n q e = refl
past_by (Ok u) c cs n q e = go (eqb c.kind 2)
  where
    go : (t : Bool) → end_within n (cond t (c ∷ []) (c ∷ cs)) ≡ []
    go true = simp (lt-leb (c.place + c.total) n q)
    go false = simp (lt-leb (c.place + c.total) n q) e

-- a command that ends within n
inside_by : (v : Verdict) (c : Command) (cs ds : List Command) (n : ℕ) → c.place + c.total ≤ n → ds ≡ end_within n cs → passed_by v c ds ≡ end_within n (passed_by v c cs)
inside_by (Err f) c cs ds n q e = refl
inside_by (Ok u) c cs ds n q e = go (eqb c.kind 2)
  where
    go : (t : Bool) → cond t (c ∷ []) (c ∷ ds) ≡ end_within n (cond t (c ∷ []) (c ∷ cs))
    go true = simp (le-leb (c.place + c.total) n q)
    go false = simp (le-leb (c.place + c.total) n q) (ap (◌∷◌ c) e)

-- the command at the start of a list
module _ (d : ℕ) (ds : List ℕ) (at : ℕ) (st : State) where
  abbrev k : ℕ
  k = kind_of st.chip d

  abbrev t : ℕ
  t = total_of (kind_of st.chip d) d

  abbrev verdict : Verdict
  verdict = judge_of k (suc (length ds)) (head_of k (d ∷ ds)) st

  abbrev next : State
  next = state_after k (head_of k (d ∷ ds)) st

  first_passed : (walk (d ∷ ds) 0 at st).passed ≡ passed_by verdict (here (d ∷ ds) at st) (walk ds (t - 1) (at + 1) next).passed
  unfolding walk
  first_passed = by_passed verdict (here (d ∷ ds) at st) (walk ds (t - 1) (at + 1) next)

-- no command from a place on ends at or before it
outside : (l : List ℕ) (m at n : ℕ) (st : State) → n ≤ at + m → end_within n (walk l m at st).passed ≡ []
unfolding walk
outside [] m at n st q = refl
outside (d ∷ ds) (suc m) at n st q = outside ds m (at + 1) n st (omega arith)
outside (d ∷ ds) zero at n st q =
    let z = total_pos (k d ds at st) d in
    ap (end_within n) (first_passed d ds at st)
    ∙ past_by (verdict d ds at st) (here (d ∷ ds) at st) (walk ds (t d ds at st - 1) (at + 1) (next d ds at st)).passed n (omega arith)
    (outside ds (t d ds at st - 1) (at + 1) n (next d ds at st) (omega arith))

-- the command at the start of a list, and of its first dwords
module _ (d : ℕ) (ds : List ℕ) (n at : ℕ) (st : State)
    (ih : (m : ℕ) (s : State) → (walk (take n ds) m (at + 1) s).passed ≡ end_within (at + 1 + n) (walk ds m (at + 1) s).passed) where
  abbrev kd : ℕ
  kd = kind_of st.chip d

  abbrev td : ℕ
  td = total_of (kind_of st.chip d) d

  abbrev part : List ℕ
  part = take n ds

  abbrev whole : List Command
  whole = (walk (d ∷ ds) 0 at st).passed

  abbrev cut : List Command
  cut = (walk (d ∷ part) 0 at st).passed

  few : length part ≤ n
  few = let z = length-take n ds in omega arith

  fewer : length part ≤ length ds
  fewer = let z = length-take n ds in omega arith

  abbrev five : Fault
  five = record { refusal = Truncated; skip = 0 }

  none_by : (l : List ℕ) (f : Fault) → judge_of kd (suc (length l)) (head_of kd (d ∷ l)) st ≡ Err f → (walk (d ∷ l) 0 at st).passed ≡ []
  none_by l f e = first_passed d l at st ∙ ap (λ (v : Verdict). passed_by v (here (d ∷ l) at st) (walk l (td - 1) (at + 1) (next d l at st)).passed) e

  refused_within : (f : Fault) → header_verdict kd d td ≡ Err f → cut ≡ end_within (at + suc n) whole
  refused_within f e =
      none_by part f (refuses st at d part f e) ∙ sym (ap (end_within (at + suc n)) (none_by ds f (refuses st at d ds f e)))

  module _ (hp : header_verdict kd d td ≡ no_fault) where
    short_within : suc (length ds) < td → cut ≡ end_within (at + suc n) whole
    short_within q =
        let f = fewer in
        none_by part five (judge_short st at d part hp (omega arith)) ∙ sym (ap (end_within (at + suc n)) (none_by ds five (judge_short st at d ds hp q)))

    past_within : suc n < td → cut ≡ end_within (at + suc n) whole
    past_within q =
        let f = few in
        none_by part five (judge_short st at d part hp (omega arith))
        ∙ sym (ap (end_within (at + suc n)) (first_passed d ds at st)
        ∙ past_by (verdict d ds at st) (here (d ∷ ds) at st) (walk ds (td - 1) (at + 1) (next d ds at st)).passed (at + suc n) (omega arith)
        (outside ds (td - 1) (at + 1) (at + suc n) (next d ds at st) (omega arith)))

    whole_within : td ≤ suc n → td ≤ suc (length ds) → cut ≡ end_within (at + suc n) whole
    whole_within p q =
        let z = length-take n ds in
        let e : head_of kd (d ∷ part) ≡ head_of kd (d ∷ ds) = head_part st at d hp ds n p in
        let l : at + 1 + n ≡ at + suc n = omega arith in
        let v : verdict d part at st ≡ verdict d ds at st =
        judge_whole st at d part hp (omega arith) ∙ ap (λ (h : List ℕ). own_verdict kd h st) e ∙ sym (judge_whole st at d ds hp q) in
        let i : (walk part (td - 1) (at + 1) (next d ds at st)).passed ≡ end_within (at + suc n) (walk ds (td - 1) (at + 1) (next d ds at st)).passed =
        ih (td - 1) (next d ds at st) ∙ ap (λ (m : ℕ). end_within m (walk ds (td - 1) (at + 1) (next d ds at st)).passed) l in
        first_passed d part at st
        ∙ ap₂ (λ (x : Verdict) (h : List ℕ). passed_by x (command_of kd at td h st) (walk part (td - 1) (at + 1) (state_after kd h st)).passed) v e
        ∙ inside_by (verdict d ds at st) (here (d ∷ ds) at st) (walk ds (td - 1) (at + 1) (next d ds at st)).passed
        (walk part (td - 1) (at + 1) (next d ds at st)).passed (at + suc n) (omega arith) i
        ∙ sym (ap (end_within (at + suc n)) (first_passed d ds at st))

    passed_within : cut ≡ end_within (at + suc n) whole
    passed_within =
        by_test (ltb (suc (length ds)) td) (λ e. short_within (ltb-true (suc (length ds)) td e))
        (λ e. by_test (ltb (suc n) td) (λ f. past_within (ltb-true (suc n) td f))
        (λ f. whole_within (ltb-false (suc n) td f) (ltb-false (suc (length ds)) td e)))

  by_header : (v : Verdict) → header_verdict kd d td ≡ v → cut ≡ end_within (at + suc n) whole
  by_header (Err f) e = refused_within f e
  by_header (Ok u) e = passed_within e

-- LAW
walk_within : (l : List ℕ) (n m at : ℕ) (st : State) → (walk (take n l) m at st).passed ≡ end_within (at + n) (walk l m at st).passed
unfolding walk
walk_within [] zero m at st = refl
walk_within [] (suc n) m at st = refl
walk_within (d ∷ ds) zero m at st = sym (outside (d ∷ ds) m at (at + 0) st (omega arith))
walk_within (d ∷ ds) (suc n) (suc m) at st =
    let e : at + 1 + n ≡ at + suc n = omega arith in
    walk_within ds n m (at + 1) st ∙ ap (λ (x : ℕ). end_within x (walk ds m (at + 1) st).passed) e
walk_within (d ∷ ds) (suc n) zero at st =
    by_header d ds n at st (λ m s. walk_within ds n m (at + 1) s) (header_verdict (kind_of st.chip d) d (total_of (kind_of st.chip d) d)) refl

pub within : (target : Target) (n : ℕ) (b : List ℕ) → (reading_of target (take n b)).passed ≡ end_within n (reading_of target b).passed
within target n b =
    let e : 0 + n ≡ n = omega arith in
    ap (λ (r : Reading). r.passed) (reading_walk target (take n b))
    ∙ walk_within b n 0 0 (state_of target [])
    ∙ ap₂ (λ (m : ℕ) (r : Reading). end_within m r.passed) e (sym (reading_walk target b))

-- LAW: what is complete in the dwords that have come
pub complete : (target : Target) (b more : List ℕ) → Complete target b more
complete target b more =
    sym (within target (length b) (b ++ more)) ∙ ap (λ (l : List ℕ). (reading_of target l).passed) (take-append_seam b more)
