-- A run's states: they only grow, and whoever started waited for nobody then. Assumes nothing.
use mathlib.Core.Path.{◌≡◌, refl, sym, ap, subst, subst⁻¹, ◌∙◌}
use mathlib.Core.Bool.{Bool, true, false, cond}
use mathlib.Core.List.{List, [], ◌∷◌}
use Prim.Native.Nat.{ℕ, suc, ◌+◌, ◌*◌, ◌/◌, ◌%◌, ◌<◌, ◌≤◌}
use native.Mathlib.Nat.{le_refl, le_trans}
use native.Mathlib.Omega.{arith}
use lib.Dec.{eqb}
use lib.ListN.{length, take, drop, replicate, length-replicate, get_or-replicate, get_or-append}
use lib.Seq.{get_or-set_other}
use borrow.Author.Tests.{eqb-true, eqb-false, eq-eqb, ne_eqb}
use Rattle.objects.specs.Objects.{Object}
use Rattle.runs.specs.Run.{state_at, starts, verdict_of, after, Ran, run_from, begun, ran}
use Rattle.runs.specs.Waits.{Waits, Stalls, Started}
use Rattle.runs.proofs.Named.{passes_finish, starts_clear, starts_unstalled, after_grows}

module _ (objects : List Object) where
  abbrev run : List ℕ → ℕ → List ℕ → Ran
  run = run_from objects

  abbrev number : List ℕ → ℕ → ℕ
  number states e = (verdict_of objects states e).number

  -- the next event, where it passes and where it does not
  pub run_on : (e : ℕ) (es : List ℕ) (i : ℕ) (states : List ℕ) → number states e ≡ 0 → run (e ∷ es) i states ≡ run es (i + 1) (after states e)
  unfolding run_from
  run_on e es i states h = simp (eq-eqb (number states e) 0 h)

  pub run_off : (e : ℕ) (es : List ℕ) (i : ℕ) (states : List ℕ) → (number states e ≡ 0 → ⊥)
      → run (e ∷ es) i states ≡ record { verdict = verdict_of objects states e; position = i; states = states }
  unfolding run_from
  run_off e es i states h = simp (ne_eqb (number states e) 0 h)

  -- states only grow
  pub run_grows : (es : List ℕ) (i : ℕ) (states : List ℕ) (k : ℕ) → state_at states k ≤ state_at (run es i states).states k
  unfolding run_from
  run_grows [] i states k = le_refl (state_at states k)
  run_grows (e ∷ es) i states k = go (eqb (number states e) 0) refl (run_grows es (i + 1) (after states e) k)
    where
      go : (t : Bool) → eqb (number states e) 0 ≡ t → state_at (after states e) k ≤ state_at (run_from objects es (i + 1) (after states e)).states k
          → state_at states k ≤ state_at (cond t (run_from objects es (i + 1) (after states e)) (record { verdict = verdict_of objects states e; position = i; states = states })).states k
      go true p ih = le_trans (after_grows objects states e (eqb-true (number states e) 0 p) k) ih
      go false p ih = le_refl (state_at states k)

  -- a run taken to its end names nobody
  pub ran_unnamed : (es : List ℕ) (i : ℕ) (states : List ℕ) → (run es i states).verdict.number ≡ 0 → ((run es i states).verdict.object ≡ 0) × ((run es i states).verdict.delta ≡ 0)
  unfolding run_from
  ran_unnamed [] i states h = (refl, refl)
  ran_unnamed (e ∷ es) i states h = go (eqb (number states e) 0) refl (ran_unnamed es (i + 1) (after states e)) h
    where
      go : (t : Bool) → eqb (number states e) 0 ≡ t
          → ((run_from objects es (i + 1) (after states e)).verdict.number ≡ 0 → ((run_from objects es (i + 1) (after states e)).verdict.object ≡ 0) × ((run_from objects es (i + 1) (after states e)).verdict.delta ≡ 0))
          → (cond t (run_from objects es (i + 1) (after states e)) (record { verdict = verdict_of objects states e; position = i; states = states })).verdict.number ≡ 0
          → ((cond t (run_from objects es (i + 1) (after states e)) (record { verdict = verdict_of objects states e; position = i; states = states })).verdict.object ≡ 0)
          × ((cond t (run_from objects es (i + 1) (after states e)) (record { verdict = verdict_of objects states e; position = i; states = states })).verdict.delta ≡ 0)
      go true p ih h = ih h
      go false p ih h = absurd (eqb-false (number states e) 0 p h)

  -- the position is not before the first event
  at_least : (es : List ℕ) (i : ℕ) (states : List ℕ) → i ≤ (run es i states).position
  unfolding run_from
  at_least [] i states = le_refl i
  at_least (e ∷ es) i states = go (eqb (number states e) 0) (at_least es (i + 1) (after states e))
    where
      go : (t : Bool) → i + 1 ≤ (run_from objects es (i + 1) (after states e)).position
          → i ≤ (cond t (run_from objects es (i + 1) (after states e)) (record { verdict = verdict_of objects states e; position = i; states = states })).position
      go true ih = omega arith
      go false ih = le_refl i

  -- an event that takes object k out of state 0 is its start
  module _ (states : List ℕ) (e k : ℕ) (h : number states e ≡ 0) (z : state_at states k ≡ 0) (n : state_at (after states e) k ≡ 0 → ⊥) where
    its_own : e / 2 ≡ k
    unfolding after
    its_own = go (eqb k (e / 2)) refl
      where
        go : (t : Bool) → eqb k (e / 2) ≡ t → e / 2 ≡ k
        go true p = sym (eqb-true k (e / 2) p)
        go false p = absurd (n (get_or-set_other states (e / 2) k (cond (starts e) 1 2) 0 (eqb-false k (e / 2) p) ∙ z))

    its_start : starts e ≡ true
    its_start = go (starts e) refl
      where
        go : (t : Bool) → starts e ≡ t → starts e ≡ true
        go true p = p
        go false p =
            let o : state_at states k ≡ 1 = subst (λ (x : ℕ). state_at states x ≡ 1) its_own (passes_finish objects states e h p) in
            absurd (omega arith)

    its_event : e ≡ 2 * k
    its_event =
        let p : e / 2 ≡ k = its_own in
        let q : e % 2 ≡ 0 = eqb-true (e % 2) 0 its_start in
        omega arith

    its_clear : (j : ℕ) → Waits objects states k j → ⊥
    its_clear j w = starts_clear objects states e h its_start j (subst⁻¹ (λ (x : ℕ). Waits objects states x j) its_own w)

    its_unstalled : (j : ℕ) → Stalls objects states k j → ⊥
    its_unstalled j w = starts_unstalled objects states e h its_start j (subst⁻¹ (λ (x : ℕ). Stalls objects states x j) its_own w)

  -- an object that is out of state 0 was started by an accepted event, and waited for nobody then
  pub started : (es : List ℕ) (i : ℕ) (states : List ℕ) (k : ℕ) → state_at states k ≡ 0 → (state_at (run es i states).states k ≡ 0 → ⊥) → Started objects es i states k
  unfolding run_from
  started [] i states k z n = absurd (n z)
  started (e ∷ es) i states k z n = go (eqb (number states e) 0) refl (eqb (state_at (after states e) k) 0) refl (started es (i + 1) (after states e) k)
    where
      go : (t : Bool) → eqb (number states e) 0 ≡ t → (u : Bool) → eqb (state_at (after states e) k) 0 ≡ u
          → (state_at (after states e) k ≡ 0 → (state_at (run_from objects es (i + 1) (after states e)).states k ≡ 0 → ⊥) → Started objects es (i + 1) (after states e) k)
          → Started objects (e ∷ es) i states k
      go true p true q ih =
          let h : number states e ≡ 0 = eqb-true (number states e) 0 p in
          let s = ih (eqb-true (state_at (after states e) k) 0 q) (λ y. n (ap (λ (r : Ran). state_at r.states k) (run_on e es i states h) ∙ y)) in
          record {
            at = suc s.at;
            accepted = subst⁻¹ (λ (r : Ran). i + suc s.at < r.position) (run_on e es i states h) (omega (arith, s.accepted));
            event = s.event;
            unstalled = λ j w. s.unstalled j (subst (λ (r : Ran). Stalls objects r.states k j) (run_on e (take s.at es) i states h) w);
            clear = λ j w. s.clear j (subst (λ (r : Ran). Waits objects r.states k j) (run_on e (take s.at es) i states h) w);
          }
      go true p false q ih =
          let h : number states e ≡ 0 = eqb-true (number states e) 0 p in
          let m : state_at (after states e) k ≡ 0 → ⊥ = eqb-false (state_at (after states e) k) 0 q in
          record {
            at = 0;
            accepted = subst⁻¹ (λ (r : Ran). i + 0 < r.position) (run_on e es i states h) (omega (arith, at_least es (i + 1) (after states e)));
            event = its_event states e k h z m;
            unstalled = λ j w. its_unstalled states e k h z m j w;
            clear = λ j w. its_clear states e k h z m j w;
          }
      go false p u q ih =
          absurd (n (ap (λ (r : Ran). state_at r.states k) (run_off e es i states (eqb-false (number states e) 0 p)) ∙ z))

  -- of a whole run: states begin 0
  begun_zero : (states : List ℕ) (k : ℕ) → k < length objects → state_at (begun (length objects) states) k ≡ 0
  unfolding begun
  begun_zero states k h =
      get_or-append (replicate (length objects) 0) (drop (length objects) states) 0 k (subst⁻¹ (λ (n : ℕ). k < n) (length-replicate (length objects) 0) h)
      ∙ get_or-replicate (length objects) k 0 0 h

  pub ran_started : (events states : List ℕ) (k : ℕ) → k < length objects → (state_at (ran objects events states).states k ≡ 0 → ⊥) → Started objects events 0 (begun (length objects) states) k
  ran_started events states k h n = started events 0 (begun (length objects) states) k (begun_zero states k h) n
