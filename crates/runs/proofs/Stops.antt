-- Where a run stops, and the state bytes that it never changes. Assumes nothing.
use mathlib.Core.Path.{◌≡◌, refl, sym, ap, ◌∙◌}
use mathlib.Core.List.{List, [], ◌∷◌}
use Prim.Native.Nat.{ℕ, zero, suc, ◌+◌, ◌-◌, ◌/◌, ◌<◌, ◌≤◌}
use native.Mathlib.Omega.{arith}
use lib.Dec.{eqb}
use lib.ListN.{length, get_or, take, drop, replicate, length-set, length-append, length-drop, length-replicate}
use lib.Seq.{drop_at, drop-set-lt, get_or-drop}
use borrow.Author.Tests.{eqb-true, eqb-false}
use Rattle.laws.proofs.Choices.{by_cond}
use Rattle.objects.specs.Objects.{Object}
use Rattle.runs.specs.Run.{state_left, verdict_of, after, Ran, run_from, begun, ran}
use Rattle.runs.proofs.Runs.{run_on}
use Rattle.runs.proofs.RunTurns.{object_known}

-- what a run of the events es from position i on ends with: it stopped at event `at` of them
pub record Stops (objects : List Object) (es : List ℕ) (i : ℕ) (states : List ℕ) (r : Ran) : Type 0 where
  pub at : ℕ
  pub place : r.position ≡ i + at
  pub kept : r.states ≡ (run_from objects (take at es) i states).states
  pub passed : (n : ℕ) → n < at → (verdict_of objects (run_from objects (take n es) i states).states (get_or es n 0)).number ≡ 0
  pub end : r.verdict.number ≡ 0 → at ≡ length es
  pub bad : (r.verdict.number ≡ 0 → ⊥) → (at < length es) × (r.verdict ≡ verdict_of objects (run_from objects (take at es) i states).states (get_or es at 0))

module _ (objects : List Object) where
  abbrev states_of : List ℕ → ℕ → List ℕ → List ℕ
  states_of es i states = (run_from objects es i states).states

  -- an event that passes, then the rest
  module _ (e : ℕ) (es : List ℕ) (i : ℕ) (states : List ℕ) (h : (verdict_of objects states e).number ≡ 0) where
    on : (n : ℕ) → states_of (take n es) (i + 1) (after states e) ≡ states_of (take (suc n) (e ∷ es)) i states
    on n = sym (ap (λ (r : Ran). r.states) (run_on objects e (take n es) i states h))

    stops_on : (r : Ran) → Stops objects es (i + 1) (after states e) r → Stops objects (e ∷ es) i states r
    unfolding run_from
    stops_on r s =
        record {
          at = suc s.at;
          place = omega (arith, s.place);
          kept = s.kept ∙ on s.at;
          passed = before;
          end = λ z. ap suc (s.end z);
          bad = λ z. (omega (arith, (s.bad z).0), (s.bad z).1 ∙ ap (λ (x : List ℕ). verdict_of objects x (get_or es s.at 0)) (on s.at));
        }
      where
        before : (n : ℕ) → n < suc s.at → (verdict_of objects (states_of (take n (e ∷ es)) i states) (get_or (e ∷ es) n 0)).number ≡ 0
        before zero q = h
        before (suc n) q = ap (λ (x : List ℕ). (verdict_of objects x (get_or es n 0)).number) (sym (on n)) ∙ s.passed n (omega arith)

  pub stops : (es : List ℕ) (i : ℕ) (states : List ℕ) → Stops objects es i states (run_from objects es i states)
  unfolding run_from
  stops [] i states =
      record { at = 0; place = omega arith; kept = refl; passed = λ n h. absurd (omega arith); end = λ z. refl; bad = λ n. absurd (n refl) }
  stops (e ∷ es) i states =
      by_cond (Stops objects (e ∷ es) i states) (eqb (verdict_of objects states e).number 0) _ _
      (λ t. stops_on e es i states (eqb-true _ 0 t) _ (stops es (i + 1) (after states e)))
      (λ t. record {
        at = 0;
        place = omega arith;
        kept = refl;
        passed = λ n h. absurd (omega arith);
        end = λ z. absurd (eqb-false _ 0 t z);
        bad = λ z. (omega arith, refl);
      })

  -- LAW: the state bytes past the objects stay
  abbrev N : ℕ
  N = length objects

  run_past : (es : List ℕ) (i : ℕ) (states : List ℕ) → drop N (states_of es i states) ≡ drop N states
  unfolding run_from after
  run_past [] i states = refl
  run_past (e ∷ es) i states =
      by_cond (λ (r : Ran). drop N r.states ≡ drop N states) (eqb (verdict_of objects states e).number 0) _ _
      (λ t. run_past es (i + 1) (after states e) ∙ drop-set-lt N states (e / 2) (state_left e) (object_known objects states e _ refl N N refl (omega arith) (eqb-true _ 0 t)))
      (λ t. refl)

  run_long : (es : List ℕ) (i : ℕ) (states : List ℕ) → length (states_of es i states) ≡ length states
  unfolding run_from after
  run_long [] i states = refl
  run_long (e ∷ es) i states =
      by_cond (λ (r : Ran). length r.states ≡ length states) (eqb (verdict_of objects states e).number 0) _ _
      (λ t. run_long es (i + 1) (after states e) ∙ length-set states (e / 2) (state_left e)) (λ t. refl)

  from : (l : List ℕ) (i : ℕ) → N ≤ i → get_or l i 0 ≡ get_or (drop N l) (i - N) 0
  from l i h = let z : i ≡ N + (i - N) = omega arith in ap (λ (k : ℕ). get_or l k 0) z ∙ sym (get_or-drop N l (i - N) 0)

  module _ (run states : List ℕ) where
    pub ran_past : (i : ℕ) → N ≤ i → get_or (ran objects run states).states i 0 ≡ get_or states i 0
    unfolding begun
    ran_past i h =
        from (ran objects run states).states i h
        ∙ ap (λ (l : List ℕ). get_or l (i - N) 0) (run_past run 0 (begun N states) ∙ drop_at (replicate N 0) (drop N states) N (length-replicate N 0))
        ∙ sym (from states i h)

    pub ran_long : N ≤ length states → length (ran objects run states).states ≡ length states
    unfolding begun
    ran_long h = run_long run 0 (begun N states) ∙ simp (length-append, length-replicate, length-drop) (omega arith)
