-- Every OBJECT passed has the VFE in force among the commands passed: "kinds 4, 5, 7 need an earlier VFE". Assumes nothing.
use mathlib.Core.Path.{◌≡◌, refl, sym, ap, subst, ◌∙◌}
use mathlib.Core.Bool.{Bool, true, false, cond, ◌||◌}
use Rattle.chips.specs.declared.Target.{Target}
use Rattle.laws.proofs.Choices.{by_test, not_both}
use mathlib.Core.List.{List, [], ◌∷◌}
use Prim.Native.Nat.{ℕ, zero, suc, ◌+◌, ◌-◌, ◌<◌}
use native.Mathlib.Nat.{zero-add, add-zero}
use native.Mathlib.Omega.{arith}
use lib.ListN.{length}
use lib.Dec.{eqb}
use borrow.Author.Tests.{eqb-true, eqb-false}
use Rattle.command.specs.declared.State.{State}
use Rattle.command.specs.Kinds.{kind_of}
use Rattle.command.specs.Order.{Command, stands_since, earlier_vfe, vfe_in_force, state_of}
use Rattle.judge.specs.Refusals.{Verdict, no_fault, judge_of}
use Rattle.judge.proofs.Judged.{passed_after_vfe}
use Rattle.reading.specs.Reading.{Reading, command_at, after_verdict, read, reading_of}
use Rattle.reading.specs.Vfes.{command_number, NearestVfe, UnderVfe}
use Rattle.reading.proofs.Verdicts.{by_verdict_lem}

-- commands before, the nearest first, and then the list of those after
abbrev onto : List Command → List Command → List Command
onto [] ys = ys
onto (c ∷ cs) ys = onto cs (c ∷ ys)

onto_length : (cs ys : List Command) → length (onto cs ys) ≡ length cs + length ys
onto_length [] ys = sym (zero-add (length ys))
onto_length (c ∷ cs) ys = let z = onto_length cs (c ∷ ys) in omega arith

onto_at : (cs ys : List Command) (i : ℕ) → command_number (onto cs ys) (length cs + i) ≡ command_number ys i
onto_at [] ys i = ap (command_number ys) (zero-add i)
onto_at (c ∷ cs) ys i =
    let e : suc (length cs) + i ≡ length cs + suc i = omega arith in ap (command_number (onto cs (c ∷ ys))) e ∙ onto_at cs (c ∷ ys) (suc i)

-- the VFE in force stands among the commands before, and none after it
in_force_lem : (cs ys : List Command) → earlier_vfe cs ≡ true → NearestVfe (onto cs ys) (length cs) (vfe_in_force cs)
unfolding stands_since vfe_in_force
in_force_lem [] ys n = absurd (not_both false n refl)
in_force_lem (c ∷ cs) ys n = go (eqb c.kind 3) refl n (in_force_lem cs (c ∷ ys))
  where
    here : command_number (onto cs (c ∷ ys)) (length cs) ≡ c
    here = ap (command_number (onto cs (c ∷ ys))) (sym (add-zero (length cs))) ∙ onto_at cs (c ∷ ys) 0

    go : (t : Bool) → eqb c.kind 3 ≡ t → cond (eqb c.kind 3 || false) true (earlier_vfe cs) ≡ true
        → (earlier_vfe cs ≡ true → NearestVfe (onto cs (c ∷ ys)) (length cs) (vfe_in_force cs))
        → NearestVfe (onto cs (c ∷ ys)) (suc (length cs)) (cond t (length cs) (vfe_in_force cs))
    go true p n ih =
        record {
          before = omega arith;
          vfe = ap (λ (x : Command). x.kind) here ∙ eqb-true c.kind 3 p;
          nearest = λ j l h. absurd (omega arith);
        }
    go false p n ih =
        let r = ih (simp p at n) in
        let b = r.before in
        record {
          before = omega arith;
          vfe = r.vfe;
          nearest =
              λ j l h.
              by_test (eqb j (length cs))
              (λ q e. eqb-false c.kind 3 p (sym (ap (λ (x : Command). x.kind) (ap (command_number (onto cs (c ∷ ys))) (eqb-true j (length cs) q) ∙ here)) ∙ e))
              (λ q. let m = eqb-false j (length cs) q in r.nearest j l (omega arith));
        }

-- the OBJECTs of the list cs, which stands from number n of the list `all` on
abbrev UnderFrom : List Command → ℕ → List Command → Type 0
UnderFrom all n [] = Unit
UnderFrom all n (c ∷ cs) = (c.kind ≡ 7 → NearestVfe all n c.vfe) × UnderFrom all (suc n) cs

under_at : (all : List Command) (n : ℕ) (cs : List Command) → UnderFrom all n cs → (i : ℕ) → i < length cs → (command_number cs i).kind ≡ 7
    → NearestVfe all (i + n) (command_number cs i).vfe
under_at all n [] u i h e = absurd (omega arith)
under_at all n (c ∷ cs) u zero h e = let z : 0 + n ≡ n = omega arith in subst (λ (x : ℕ). NearestVfe all x c.vfe) (sym z) (u.0 e)
under_at all n (c ∷ cs) u (suc i) h e =
    let z : i + suc n ≡ suc i + n = omega arith in
    subst (λ (x : ℕ). NearestVfe all x (command_number cs i).vfe) z (under_at all (suc n) cs u.1 i (omega arith) e)

-- one command of a reading, then the rest
module _ (target : Target) (d : ℕ) (ds : List ℕ) (at : ℕ) (cs : List Command) where
  abbrev st : State
  st = state_of target cs

  abbrev c : Command
  c = command_at (kind_of target.chip d) (d ∷ ds) at st

  abbrev judged : Verdict
  judged = judge_of (kind_of target.chip d) (length (d ∷ ds)) c.head st

  named : judged ≡ no_fault → (ys : List Command) → c.kind ≡ 7 → NearestVfe (onto cs ys) (length cs) c.vfe
  unfolding state_of
  named e ys k =
      in_force_lem cs ys
      (passed_after_vfe target (length (d ∷ ds)) c.head cs (subst (λ (x : ℕ). judge_of x (length (d ∷ ds)) c.head st ≡ no_fault) k e))

  abbrev Under : Reading → Type 0
  Under r = UnderFrom (onto cs r.passed) (length cs) r.passed

  under_verdict : (rest : Reading) → UnderFrom (onto (c ∷ cs) rest.passed) (suc (length cs)) rest.passed → Under (after_verdict judged c rest)
  under_verdict rest u =
      by_verdict_lem Under c.kind judged _ _ _ (λ f e. tt)
      (λ e p. (λ k. let z : ◌≡◌ {A = ℕ} 7 2 = sym k ∙ p in absurd (omega arith), tt)) (λ e p. (named e (c ∷ rest.passed), u))

under : (target : Target) (l : List ℕ) (n at : ℕ) (cs : List Command)
    → UnderFrom (onto cs (read target l n at cs).passed) (length cs) (read target l n at cs).passed
unfolding read
under target [] n at cs = tt
under target (d ∷ ds) (suc n) at cs = under target ds n (at + 1) cs
under target (d ∷ ds) zero at cs =
    let c = command_at (kind_of target.chip d) (d ∷ ds) at (state_of target cs) in
    under_verdict target d ds at cs (read target ds (c.total - 1) (at + 1) (c ∷ cs)) (under target ds (c.total - 1) (at + 1) (c ∷ cs))

-- LAW: each OBJECT passed names the VFE in force
pub under_vfe : (target : Target) (b : List ℕ) → UnderVfe (reading_of target b).passed
unfolding reading_of
under_vfe target b i h e =
    let cs = (read target b 0 0 []).passed in
    subst (λ (x : ℕ). NearestVfe cs x (command_number cs i).vfe) (add-zero i) (under_at cs 0 cs (under target b 0 0 []) i h e)
