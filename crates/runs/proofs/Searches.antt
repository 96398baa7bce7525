-- The searches over the states of the objects below k, and whom k waits for by the deltas to records. Assumes nothing.
use mathlib.Core.Path.{◌≡◌, refl, sym, ap, ap₂, subst, ◌∙◌}
use mathlib.Core.Bool.{Bool, true, false, not, cond, ◌&&◌}
use mathlib.Core.List.{List, [], map, Memᴰ}
use Prim.Native.Nat.{ℕ, ◌<◌, ◌≤◌}
use native.Mathlib.Omega.{arith}
use lib.Dec.{ltb, eqb}
use lib.ListN.{length}
use borrow.Author.Tests.{lt-ltb, le-ltb}
use Rattle.laws.specs.BitRanges.{field}
use Rattle.laws.specs.Find.{find_first, NoneBelow}
use Rattle.laws.proofs.Find.{none}
use Rattle.awaited.specs.Search.{unfinished_at}
use Rattle.deltas.specs.InPlay.{bit_set, those, eight, joined_mask}
use Rattle.deltas.proofs.Masks.{joined_set}
use Rattle.objects.specs.Objects.{Delta, Object, meets, delta_at, object_with, object_at}
use Rattle.runs.specs.Run.{Verdict, state_at, some_of, lowest_of, waits_for, lowest_waited, lowest_delta, no_fault}
use Rattle.objects.specs.Recorded.{Records, Numbered, word_at, vfe_word_at, object_recorded, objects_recorded, Holds, mask_at, candidate_of, delta_to}
use Rattle.runs.specs.Starts.{wait_verdict, Known}
use Rattle.runs.proofs.Waits.{object_eight}
use Rattle.runs.proofs.Lowest.{lowest_at_lem, some_below}
use Rattle.objects.proofs.Numbers.{objects_few}

-- what is known of object k, by what is recorded
pub known_of : (d : List ℕ) (n count k : ℕ) (states : List ℕ) → Records d n → Numbered d n → count ≡ length (objects_recorded d n) → k < count → count ≤ length states
    → Known d n states k
known_of d n count k states r m e h l = record { records = r; numbered = m; object = omega (arith, e, h); room = omega (arith, e, l) }

-- an object's number is small
pub known_small : (d : List ℕ) (n : ℕ) (states : List ℕ) (k : ℕ) → Known d n states k → k < 16384
known_small d n states k h = omega (arith, objects_few d 0 n, h.object, h.records.limit)

-- the tests of the code, against those of the definition: p says that the other is finished
below_8 : (p u e : Bool) (l : ℕ) → not p && u && e && ltb l 8 ≡ not p && ltb (cond (u && e) l 8) 8
below_8 true u e l = refl
below_8 false true true l = refl
below_8 false true false l = refl
below_8 false false e l = refl

is_lowest : (t : Bool) (l : ℕ) → cond t l 8 < 8 → cond t l 8 ≡ l
is_lowest true l h = refl
is_lowest false l h = absurd (omega arith)

-- object k is that of record own, and object j that of record r
module _ (d : List ℕ) (n : ℕ) (states : List ℕ) (k own j r : ℕ) (hk : Holds d n k own) (hj : Holds d n j r) where
  abbrev objects : List Object
  objects = objects_recorded d n

  abbrev lowest : ℕ
  lowest = lowest_of (meets (object_at objects k) (object_at objects j)) (object_at objects k).in_play

  delta_here : delta_to d (candidate_of d own) r ≡ cond ((object_at objects j).uses && eqb (object_at objects j).colour (object_at objects k).colour) lowest 8
  unfolding delta_to candidate_of object_recorded object_with
  delta_here =
      subst (λ (x : Object). delta_to d (candidate_of d own) r ≡ cond (x.uses && eqb x.colour (object_at objects k).colour) (lowest_of (meets (object_at objects k) x) (object_at objects k).in_play) 8) (sym hj.object)
      (subst (λ (y : Object). delta_to d (candidate_of d own) r ≡ cond ((object_recorded d r).uses && eqb (object_recorded d r).colour y.colour) (lowest_of (meets y (object_recorded d r)) y.in_play) 8) (sym hk.object)
      (ap (λ (l : ℕ). cond ((object_recorded d r).uses && eqb (word_at d r 9) (word_at d own 9)) l 8)
      (lowest_at_lem (word_at d own 7) (word_at d own 8) (word_at d own 9) (word_at d own 4) (word_at d own 10) (vfe_word_at d own 8) (vfe_word_at d own 9) (vfe_word_at d own 10) (object_recorded d r))))

  small : (x : Delta) → Memᴰ x (object_at objects k).in_play → x.index < 8
  unfolding object_recorded
  small x m =
      object_eight (word_at d own 7) (word_at d own 8) (word_at d own 9) (word_at d own 4) (word_at d own 10) (vfe_word_at d own 8) (vfe_word_at d own 9) (vfe_word_at d own 10) x
      (subst (λ (y : Object). Memᴰ x y.in_play) hk.object m)

  pub waits_by_delta : j < k → waits_for objects states k j ≡ unfinished_at states j && ltb (delta_to d (candidate_of d own) r) 8
  unfolding waits_for
  waits_by_delta h =
      let u = (object_at objects j).uses in
      let e = eqb (object_at objects j).colour (object_at objects k).colour in
      let p = eqb (state_at states j) 2 in
      ap₂ (λ (a b : Bool). a && not p && u && e && b) (lt-ltb j k h) (some_below (meets (object_at objects k) (object_at objects j)) (object_at objects k).in_play small)
      ∙ below_8 p u e lowest
      ∙ ap (λ (i : ℕ). not p && ltb i 8) (sym delta_here)

  pub delta_lowest : delta_to d (candidate_of d own) r < 8 → delta_to d (candidate_of d own) r ≡ lowest_delta objects k j
  unfolding lowest_delta
  delta_lowest h =
      delta_here
      ∙ is_lowest ((object_at objects j).uses && eqb (object_at objects j).colour (object_at objects k).colour) lowest (subst (λ (i : ℕ). i < 8) delta_here h)

pub waits_none : (objects : List Object) (states : List ℕ) (k j : ℕ) (v : Verdict) → NoneBelow (waits_for objects states k) j → k ≤ j → v ≡ no_fault → v ≡ wait_verdict objects states k
unfolding wait_verdict lowest_waited
waits_none objects states k j v off h q =
    let e = none (waits_for objects states k) k j h off in
    let l : k ≤ find_first k (waits_for objects states k) = omega arith in
    q ∙ simp (le-ltb (find_first k (waits_for objects states k)) k l)

-- with no delta in play k waits for nobody
module _ (d : List ℕ) (n : ℕ) (states : List ℕ) (k own m : ℕ) (em : m ≡ mask_at d own) (hk : Holds d n k own) (z : m ≡ 0) where
  abbrev all : List Object
  all = objects_recorded d n

  joined_zero : joined_mask (word_at d own 4) (word_at d own 10) (vfe_word_at d own 8) ≡ 0
  joined_zero = sym em ∙ z

  none_in_play : (object_at all k).in_play ≡ []
  unfolding object_recorded object_with field
  none_in_play =
      ap (λ (x : Object). x.in_play) hk.object
      ∙ ap (map (delta_at (vfe_word_at d own 9) (vfe_word_at d own 10)))
      (sym (joined_set (word_at d own 4) (word_at d own 10) (vfe_word_at d own 8)) ∙ ap (λ (m : ℕ). those (λ i. bit_set i m) eight) joined_zero)

  and_false : (a b : Bool) → b ≡ false → a && b ≡ false
  and_false true b e = e
  and_false false b e = refl

  nobody : NoneBelow (waits_for all states k) k
  unfolding waits_for
  nobody j h =
      and_false (ltb j k && unfinished_at states j && (object_at all j).uses && eqb (object_at all j).colour (object_at all k).colour) _
      (ap (some_of (meets (object_at all k) (object_at all j))) none_in_play)

  pub waits_nobody : (v : Verdict) → v ≡ no_fault → v ≡ wait_verdict all states k
  waits_nobody v q = waits_none all states k k v nobody (omega arith) q
