-- The first record awaited is that of the lowest object waited for. Assumes nothing.
use mathlib.Core.Path.{◌≡◌, refl, sym, ap, ap₂, subst, ◌∙◌}
use mathlib.Core.Bool.{Bool, true, ◌&&◌}
use mathlib.Core.List.{List}
use Prim.Native.Nat.{ℕ, ◌<◌, ◌≤◌}
use native.Mathlib.Omega.{arith}
use lib.Dec.{ltb}
use borrow.Author.Tests.{lt-ltb, ltb-true, ltb-false}
use Rattle.std.specs.Prelude.{Option, Some, None, unwrap_or, is_some}
use Rattle.laws.specs.Find.{find_first, NoneBelow}
use Rattle.laws.proofs.Choices.{by_test, and_left, and_right}
use Rattle.laws.proofs.Find.{find_at, find_before, found}
use Rattle.objects.specs.declared.Candidate.{Candidate}
use Rattle.objects.specs.Objects.{Object}
use Rattle.objects.specs.Recorded.{word_at, is_object, RecordIn, objects_recorded, Holds, candidate_of, delta_to}
use Rattle.objects.proofs.Numbers.{holds_known, held, holds_number, holds_before, number_holds, number_less}
use Rattle.awaited.specs.Search.{unfinished_at, unfinished_record, awaited_record, StatesIn}
use Rattle.awaited.proofs.Searched.{and_false_left, and_false_right, finished_unawaited, find_most}
use Rattle.runs.specs.Run.{Verdict, waits_for, lowest_waited, fault, no_fault}
use Rattle.runs.specs.Starts.{wait_verdict, Known}
use Rattle.runs.proofs.Searches.{known_small, waits_by_delta, delta_lowest, waits_none}

-- what `named` shows of record r: a delta leads there
pub named_some : (d : List ℕ) (c : Candidate) (r : ℕ) (o : Option ℕ) → unwrap_or o 8 ≡ delta_to d c r → delta_to d c r < 8 → is_some o ≡ true
named_some d c r (Some i) e h = refl
named_some d c r None e h = absurd (omega (arith, e))

pub named_is : (d : List ℕ) (c : Candidate) (r j i : ℕ) (o : Option ℕ) → j ≡ word_at d r 15 → unwrap_or o 8 ≡ delta_to d c r → o ≡ Some i
    → fault 25 j i ≡ fault 25 (word_at d r 15) (delta_to d c r)
named_is d c r j i o ej ei eo = ap₂ (fault 25) ej (sym (ap (λ (x : Option ℕ). unwrap_or x 8) eo) ∙ ei)

-- the records that a search goes over have numbers of objects
pub states_in : (d : List ℕ) (n : ℕ) (states : List ℕ) (k own : ℕ) → Known d n states k → Holds d n k own → StatesIn d states own
states_in d n states k own h hk r l =
    let b = hk.below in
    record {
      within = record { room = omega (arith, h.records.room); limit = omega (arith, h.records.limit) };
      state = λ e. omega (arith, holds_known d n (word_at d r 15) r (number_holds d n h.numbered r (omega arith) e), h.room);
    }

-- object k is that of record own
module _ (d : List ℕ) (n : ℕ) (states : List ℕ) (k own : ℕ) (h : Known d n states k) (hk : Holds d n k own) where
  abbrev objects : List Object
  objects = objects_recorded d n

  abbrev c : Candidate
  c = candidate_of d own

  abbrev awaited : ℕ → Bool
  awaited = awaited_record d states c

  -- k waits for object j when j's record is awaited
  waits_record : (j r : ℕ) → Holds d n j r → j < k → waits_for objects states k j ≡ awaited r
  unfolding awaited_record unfinished_record
  waits_record j r hj l =
      waits_by_delta d n states k own j r hk hj l
      ∙ ap₂ (λ (b : Bool) (i : ℕ). (b && unfinished_at states i) && ltb (delta_to d c r) 8) (sym hj.kind) (sym (holds_number d n h.numbered j r hj))

  -- before record r none is awaited, and object j stands there or before
  waits_below : (j r : ℕ) → Holds d n j r → NoneBelow awaited r → j ≤ k → NoneBelow (waits_for objects states k) j
  waits_below j r hj off l i q =
      let w = held d n i (omega (arith, holds_known d n j r hj)) in
      waits_record i w.at w.holds (omega arith) ∙ off w.at (holds_before d n i w.at j r w.holds hj q)

  -- below the first unfinished object's record none is awaited
  pub awaited_from : (u at : ℕ) → Holds d n u at → NoneBelow (unfinished_at states) u → NoneBelow awaited at
  unfolding unfinished_record
  awaited_from u at hu off r q =
      finished_unawaited d states c r
      (by_test (is_object d r)
      (λ e. and_false_right (is_object d r) _ (off (word_at d r 15) (number_less d n h.numbered u at r hu (omega (arith, hu.below)) e q)))
      (λ e. and_false_left (is_object d r) _ e))

  module _ (r : ℕ) (er : r ≡ find_first own awaited) where
    there : r < own → awaited r ≡ true
    there l = ap awaited er ∙ find_at awaited own (omega arith)

    its_object : r < own → is_object d r ≡ true
    unfolding awaited_record unfinished_record
    its_object l = and_left (is_object d r) _ (and_left (unfinished_record d states r) _ (there l))

    its_delta : r < own → delta_to d c r < 8
    unfolding awaited_record
    its_delta l = ltb-true (delta_to d c r) 8 (and_right (unfinished_record d states r) _ (there l))

    named_there : r < own → fault 25 (word_at d r 15) (delta_to d c r) ≡ wait_verdict objects states k
    unfolding wait_verdict lowest_waited
    named_there l =
        let j = word_at d r 15 in
        let hj = number_holds d n h.numbered r (omega (arith, hk.below)) (its_object l) in
        let b = number_less d n h.numbered k own r hk (omega (arith, hk.below)) (its_object l) l in
        let f = found (waits_for objects states k) k j b (waits_below j r hj (λ i q. find_before awaited own i (omega arith)) (omega arith)) (waits_record j r hj b ∙ there l) in
        ap (fault 25 j) (delta_lowest d n states k own j r hk hj (its_delta l)) ∙ simp (f, lt-ltb j k b)

  named_nobody : NoneBelow awaited own → (v : Verdict) → v ≡ no_fault → v ≡ wait_verdict objects states k
  named_nobody off v e = waits_none objects states k k v (waits_below k own hk off (omega arith)) (omega arith) e

-- the search for whom object k of record own waits for: t is the candidate, u the first unfinished object
module _ (d : List ℕ) (n : ℕ) (states : List ℕ) (k own : ℕ) (h : Known d n states k) (hk : Holds d n k own) where
  module _ (u : ℕ) (eu : u ≡ find_first k (unfinished_at states)) where
    pub first_most : u ≤ k
    first_most = omega (arith, find_most (unfinished_at states) k)

    pub first_off : NoneBelow (unfinished_at states) u
    first_off i q = find_before (unfinished_at states) k i (omega arith)

    pub nobody_left : u ≡ k → no_fault ≡ wait_verdict (objects_recorded d n) states k
    nobody_left e =
        named_nobody d n states k own h hk
        (awaited_from d n states k own h hk k own hk (subst (NoneBelow (unfinished_at states)) e first_off)) no_fault refl

  module _ (t : Candidate) (et : t ≡ candidate_of d own) where
    pub search_from : (u at : ℕ) → u ≡ find_first k (unfinished_at states) → Holds d n u at → NoneBelow (awaited_record d states t) at
    search_from u at eu hu =
        subst (λ (x : Candidate). NoneBelow (awaited_record d states x) at) (sym et) (awaited_from d n states k own h hk u at hu (first_off u eu))

    module _ (r : ℕ) (er : r ≡ find_first own (awaited_record d states t)) where
      search_is : r ≡ find_first own (awaited_record d states (candidate_of d own))
      search_is = er ∙ ap (λ (x : Candidate). find_first own (awaited_record d states x)) et

      search_most : r ≤ own
      search_most = omega (arith, find_most (awaited_record d states t) own)

      pub search_in : RecordIn d r
      search_in = let a = hk.below in let b = search_most in record { room = omega (arith, h.records.room); limit = omega (arith, h.records.limit) }

      pub search_small : word_at d r 15 < 16384
      search_small =
          by_test (ltb r own)
          (λ q. let l = ltb-true r own q in
          let o = its_object d n states k own h hk r search_is l in
          omega (arith, number_less d n h.numbered k own r hk (omega (arith, hk.below)) o l, known_small d n states k h))
          (λ q. let l = ltb-false r own q in
          let z : r ≡ own = omega (arith, search_most) in
          omega (arith, ap (λ (i : ℕ). word_at d i 15) z, holds_number d n h.numbered k own hk, known_small d n states k h))

      pub search_delta : (r ≡ own → ⊥) → delta_to d t r < 8
      search_delta z =
          subst (λ (x : Candidate). delta_to d x r < 8) (sym et) (its_delta d n states k own h hk r search_is (omega (arith, search_most)))

      -- the search ended at its own record, or before it
      pub search_nobody : r ≡ own → no_fault ≡ wait_verdict (objects_recorded d n) states k
      search_nobody e =
          named_nobody d n states k own h hk
          (λ i l. find_before (awaited_record d states (candidate_of d own)) own i (omega (arith, search_is))) no_fault refl

      pub search_verdict : (v : Verdict) → (r ≡ own → ⊥) → v ≡ fault 25 (word_at d r 15) (delta_to d t r)
          → v ≡ wait_verdict (objects_recorded d n) states k
      search_verdict v z e =
          e ∙ ap (λ (x : Candidate). fault 25 (word_at d r 15) (delta_to d x r)) et
          ∙ named_there d n states k own h hk r search_is (omega (arith, search_most))
