-- What an event's verdict says: whom 24 and 25 name, and that an event that passes is in order. Assumes nothing.
use mathlib.Core.Path.{◌≡◌, refl, sym, subst, subst⁻¹, ◌∙◌}
use mathlib.Core.Bool.{Bool, true, false, cond, ◌&&◌}
use mathlib.Core.List.{List, [], ◌∷◌, Memᴰ}
use Prim.Native.Nat.{ℕ, zero, suc, ◌+◌, ◌/◌, ◌%◌, ◌<◌, ◌≤◌}
use native.Mathlib.Omega.{arith}
use lib.Dec.{T, ltb, leb, eqb}
use lib.ListN.{length, get_or, set}
use borrow.Author.Tests.{ltb-true, ltb-false, leb-true, eqb-true, eqb-false, eq-eqb, ne_eqb, lt-ltb, not-true, not-false}
use Rattle.objects.specs.Objects.{Delta, Object, meets, object_at}
use Rattle.laws.specs.Find.{find_first}
use Rattle.runs.specs.Run.{Verdict, state_at, waiting, starts, finishes, waits_for, lowest_waited, lowest_delta, lowest_waiting, rows, verdict_of, no_fault, after}
use Rattle.runs.specs.Waits.{Waits, Stalls, Blocks}
use Rattle.laws.specs.Rows.{Row, row}
use Rattle.laws.proofs.Rows.{holds_at, by_rows, no_row}
use Rattle.laws.proofs.Choices.{and_left, and_right}
use Rattle.laws.proofs.Find.{find_at, find_before, found}
use Rattle.runs.proofs.Waits.{met, led, lowest_le, lowest_one, waits, waited}

odd : (e : ℕ) → (e % 2 ≡ 0 → ⊥) → e % 2 ≡ 1
odd e o = omega arith

set_grows : (l : List ℕ) (k a i : ℕ) → get_or l k 0 ≤ a → get_or l i 0 ≤ get_or (set l k a) i 0
set_grows [] k a i h = omega arith
set_grows (x ∷ xs) zero a zero h = h
set_grows (x ∷ xs) zero a (suc i) h = omega arith
set_grows (x ∷ xs) (suc k) a zero h = omega arith
set_grows (x ∷ xs) (suc k) a (suc i) h = set_grows xs k a i h

four : (p q r s : Bool) → p && q && r && s ≡ true → (p ≡ true) × (q ≡ true) × (r ≡ true) × (s ≡ true)
four true true true true h = (refl, refl, refl, refl)
four true true true false h = absurd (subst T (sym h) tt)
four true true false s h = absurd (subst T (sym h) tt)
four true false r s h = absurd (subst T (sym h) tt)
four false q r s h = absurd (subst T (sym h) tt)

off : (p q : Bool) → p && q ≡ false → p ≡ true → q ≡ false
off true q h e = h
off false q h e = absurd (subst T (sym e) tt)

-- what an event's verdict says
module _ (objects : List Object) (states : List ℕ) (e : ℕ) where
  abbrev k : ℕ
  k = e / 2

  abbrev v : Verdict
  v = verdict_of objects states e

  abbrev table : List (Row Verdict)
  table = rows objects states e

  abbrev given : ℕ → Verdict
  given i = (get_or table i (row no_fault false)).gives

  -- where an event passes, no row holds
  passes : v.number ≡ 0 → (i : ℕ) → holds_at table i ≡ false
  unfolding verdict_of
  passes h i = no_row (λ (x : Verdict). x.number) no_fault table tt h i

  -- the row with the number of a bad event holds, and gives the event's verdict
  module _ (i : ℕ) where
    abbrev Decides : Verdict → Type 0
    Decides x = (holds_at table i ≡ true) × (x ≡ given i)

    here : (j : ℕ) → j ≡ i → holds_at table j ≡ true → Decides (given j)
    here j q g = subst (λ (m : ℕ). (holds_at table m ≡ true) × (given j ≡ given m)) q (g, refl)

    decides : v.number ≡ 21 + i → Decides v
    unfolding verdict_of
    decides =
        by_rows (λ (x : Verdict). x.number ≡ 21 + i → Decides x) no_fault table (λ q. absurd (omega arith))
        ((λ g q. here 0 (omega arith) g), ((λ g q. here 1 (omega arith) g), ((λ g q. here 2 (omega arith) g), ((λ g q. here 3 (omega arith) g), ((λ g q. here 4 (omega arith) g), tt)))))

  -- a bad event's number
  pub bad_number : 0 < v.number → (20 < v.number) × (v.number < 26)
  unfolding verdict_of
  bad_number =
      by_rows (λ (x : Verdict). 0 < x.number → (20 < x.number) × (x.number < 26)) no_fault table (λ h. absurd (omega arith))
      ((λ _ _. (omega arith, omega arith)), ((λ _ _. (omega arith, omega arith)), ((λ _ _. (omega arith, omega arith)), ((λ _ _. (omega arith, omega arith)), ((λ _ _. (omega arith, omega arith)), tt)))))

  -- 24 and 25 name an object, and 25 a delta, and no other
  pub no_object_lem : v.number < 24 → v.object ≡ 0
  unfolding verdict_of
  no_object_lem =
      by_rows (λ (x : Verdict). x.number < 24 → x.object ≡ 0) no_fault table (λ _. refl)
      ((λ _ _. refl), ((λ _ _. refl), ((λ _ _. refl), ((λ _ h. absurd (omega arith)), ((λ _ h. absurd (omega arith)), tt)))))

  pub no_delta_lem : v.number < 25 → v.delta ≡ 0
  unfolding verdict_of
  no_delta_lem =
      by_rows (λ (x : Verdict). x.number < 25 → x.delta ≡ 0) no_fault table (λ _. refl)
      ((λ _ _. refl), ((λ _ _. refl), ((λ _ _. refl), ((λ _ _. refl), ((λ _ h. absurd (omega arith)), tt)))))

  pub unknown : v.number ≡ 21 → length objects ≤ k
  unknown h = leb-true (length objects) k (decides 0 h).0

  pub not_waiting_lem : v.number ≡ 22 → (starts e ≡ true) × (state_at states k ≡ 0 → ⊥)
  not_waiting_lem h = let g = (decides 1 h).0 in (and_left (starts e) _ g, eqb-false _ _ (not-true _ (and_right (starts e) _ g)))

  pub not_running_lem : v.number ≡ 23 → (finishes e ≡ true) × (state_at states k ≡ 1 → ⊥)
  not_running_lem h = let g = (decides 2 h).0 in (and_left (finishes e) _ g, eqb-false _ _ (not-true _ (and_right (finishes e) _ g)))

  -- 24 and 25 are of a start
  pub names_start : 23 < v.number → starts e ≡ true
  unfolding verdict_of
  names_start =
      by_rows (λ (x : Verdict). 23 < x.number → starts e ≡ true) no_fault table (λ h. absurd (omega arith))
      ((λ _ h. absurd (omega arith)), ((λ _ h. absurd (omega arith)), ((λ _ h. absurd (omega arith)), ((λ g _. (four (starts e) _ _ _ g).0), ((λ g _. and_left (starts e) _ g), tt)))))

  abbrev waiter : ℕ
  waiter = lowest_waiting states k

  abbrev stalling : Bool
  stalling = starts e && (object_at objects k).uses && eqb (object_at objects k).type 0 && ltb waiter k

  pub stalls : v.number ≡ 24 → Stalls objects states k v.object
  unfolding lowest_waiting
  stalls h = let d = decides 3 h in subst⁻¹ (λ (x : Verdict). Stalls objects states k x.object) d.1 (named d.0)
    where
      named : stalling ≡ true → Stalls objects states k waiter
      named g =
          let q = four (starts e) _ _ _ g in
          let l = ltb-true waiter k q.3 in
          record {
            uses = q.1;
            type = eqb-true _ _ q.2;
            earlier = l;
            waiting = eqb-true _ _ (find_at _ k l);
            lowest = λ i b z. eqb-false _ _ (find_before _ k i b) z;
          }

  pub blocks : ((d : Delta) → Memᴰ d (object_at objects k).in_play → d.index < 8) → v.number ≡ 25 → Blocks objects states k v.object v.delta
  unfolding lowest_waited lowest_delta
  blocks small h =
      let d = decides 4 h in
      subst⁻¹ (λ (x : Verdict). Blocks objects states k x.object x.delta) d.1 (named (ltb-true _ k (and_right (starts e) _ d.0)))
    where
      w : ℕ → Bool
      w = waits_for objects states k

      named : find_first k w < k → Blocks objects states k (given 4).object (given 4).delta
      named l =
          let j = find_first k w in
          let ds = (object_at objects k).in_play in
          let f = meets (object_at objects k) (object_at objects j) in
          let u : Waits objects states k j = waits objects states k j (find_at w k l) in
          let m = led (object_at objects k) (object_at objects j) u.by u.leads in
          let b = small u.by u.leads.in_play in
          let o = lowest_one f ds (omega (arith, lowest_le f ds u.by u.leads.in_play m)) in
          record {
            waits = u;
            lowest = λ i b q. absurd (subst T (sym (waited objects states k i q) ∙ find_before w k i b) tt);
            by = o.found.one;
            leads = met (object_at objects k) (object_at objects j) o.found.one o.found.among o.found.holds;
            number = o.number;
            lowest_delta = λ d q. lowest_le f ds d q.in_play (led (object_at objects k) (object_at objects j) d q);
          }

  -- a start that passes waits for nobody
  pub starts_clear : v.number ≡ 0 → starts e ≡ true → (j : ℕ) → Waits objects states k j → ⊥
  unfolding lowest_waited
  starts_clear h s j q =
      let w = waits_for objects states k in
      let l = ltb-false (find_first k w) k (off (starts e) _ (passes h 4) s) in
      let b : j < find_first k w = omega (arith, q.earlier) in
      subst T (sym (waited objects states k j q) ∙ find_before w k j b) tt

  -- nor does it stall
  pub starts_unstalled : v.number ≡ 0 → starts e ≡ true → (j : ℕ) → Stalls objects states k j → ⊥
  unfolding lowest_waiting
  starts_unstalled h s j q =
      let f = found (λ i. waiting (state_at states i)) k j q.earlier (λ i b. ne_eqb _ 0 (q.lowest i b)) (eq-eqb _ 0 q.waiting) in
      let u : stalling ≡ true = simp (s, q.uses, eq-eqb (object_at objects k).type 0 q.type, f, lt-ltb j k q.earlier) in
      subst T (sym u ∙ passes h 3) tt

  -- an event that passes is of an object
  pub passes_known : v.number ≡ 0 → leb (length objects) k ≡ false
  passes_known h = passes h 0

  -- an event that passes is a start of an object in state 0, or a finish of one in state 1
  pub passes_start : v.number ≡ 0 → starts e ≡ true → state_at states k ≡ 0
  passes_start h s = eqb-true _ _ (not-false _ (off (starts e) _ (passes h 1) s))

  pub passes_finish : v.number ≡ 0 → starts e ≡ false → state_at states k ≡ 1
  passes_finish h s = eqb-true _ _ (not-false _ (off (finishes e) _ (passes h 2) (eq-eqb (e % 2) 1 (odd e (eqb-false (e % 2) 0 s)))))

  -- states only grow
  pub after_grows : v.number ≡ 0 → (i : ℕ) → state_at states i ≤ state_at (after states e) i
  unfolding after
  after_grows h i = go (starts e) refl
    where
      go : (t : Bool) → starts e ≡ t → state_at states i ≤ state_at (set states k (cond t 1 2)) i
      go true s = set_grows states k 1 i (omega (arith, passes_start h s))
      go false s = set_grows states k 2 i (omega (arith, passes_finish h s))
