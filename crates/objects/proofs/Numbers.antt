-- Records, and the numbers of the objects that they hold. Assumes nothing.
use mathlib.Core.Path.{◌≡◌, refl, sym, ap, ap₂, subst, ◌∙◌}
use mathlib.Core.Bool.{Bool, true, false, not, cond}
use mathlib.Core.List.{List, ◌∷◌, ◌++◌}
use Prim.Native.Nat.{ℕ, zero, suc, ◌+◌, ◌-◌, ◌<◌, ◌≤◌}
use native.Mathlib.Numerals.{add-one}
use native.Mathlib.Omega.{arith}
use lib.Dec.{ltb}
use lib.ListN.{length, drop, length-append, length-drop}
use lib.Seq.{drop_at, get_or_at}
use borrow.Author.Tests.{ltb-true, ltb-false, not-true, not-false}
use Rattle.laws.proofs.Choices.{by_test}
use Rattle.objects.specs.Objects.{Object, no_object, object_at}
use Rattle.objects.specs.Recorded.{word_at, is_object, object_recorded, recorded_from, objects_recorded, objects_before, Numbered, Spotted, Holds, step_to}

-- there are no more objects than records
pub objects_few : (d : List ℕ) (r m : ℕ) → length (recorded_from d r m) ≤ m
unfolding recorded_from
objects_few d r zero = omega arith
objects_few d r (suc m) = go (is_object d r) (objects_few d (r + 1) m)
  where
    go : (t : Bool) → length (recorded_from d (r + 1) m) ≤ m → length (cond t (object_recorded d r ∷ recorded_from d (r + 1) m) (recorded_from d (r + 1) m)) ≤ suc m
    go true h = omega arith
    go false h = omega arith

module _ (d : List ℕ) where
  -- the objects of some records, then of some more
  parts : (r a b : ℕ) → recorded_from d r (a + b) ≡ recorded_from d r a ++ recorded_from d (r + a) b
  unfolding recorded_from
  parts r zero b = let p : r ≡ r + 0 = omega arith in let q : 0 + b ≡ b = omega arith in ap₂ (recorded_from d) p q
  parts r (suc a) b = let e : suc a + b ≡ suc (a + b) = omega arith in ap (recorded_from d r) e ∙ go (is_object d r) (parts (r + 1) a b ∙ ap (λ (x : ℕ). recorded_from d (r + 1) a ++ recorded_from d x b) (let f : r + 1 + a ≡ r + suc a = omega arith in f))
    where
      go : (t : Bool) → recorded_from d (r + 1) (a + b) ≡ recorded_from d (r + 1) a ++ recorded_from d (r + suc a) b
          → cond t (object_recorded d r ∷ recorded_from d (r + 1) (a + b)) (recorded_from d (r + 1) (a + b))
          ≡ cond t (object_recorded d r ∷ recorded_from d (r + 1) a) (recorded_from d (r + 1) a) ++ recorded_from d (r + suc a) b
      go true e = ap (λ (xs : List Object). object_recorded d r ∷ xs) e
      go false e = e

  -- the objects before record b, by those before record a
  pub before_more : (a b : ℕ) → a ≤ b → objects_before d b ≡ objects_before d a + length (recorded_from d a (b - a))
  before_more a b h =
      let e : b ≡ a + (b - a) = omega arith in
      let z : 0 + a ≡ a = omega arith in
      ap (objects_before d) e ∙ ap length (parts 0 a (b - a)) ∙ length-append (recorded_from d 0 a) (recorded_from d (0 + a) (b - a))
      ∙ ap (λ (x : ℕ). objects_before d a + length (recorded_from d x (b - a))) z

  -- no more of them than records
  pub before_few : (a b : ℕ) → a ≤ b → objects_before d b ≤ objects_before d a + (b - a)
  before_few a b h = omega (arith, before_more a b h, objects_few d a (b - a))

  pub before_mono : (a b : ℕ) → a ≤ b → objects_before d a ≤ objects_before d b
  before_mono a b h = omega (arith, before_more a b h)

  one : (r : ℕ) (t : Bool) → is_object d r ≡ t → length (recorded_from d r 1) ≡ cond t 1 0
  unfolding recorded_from
  one r true e = ap (λ (t : Bool). length (cond t (object_recorded d r ∷ recorded_from d (r + 1) 0) (recorded_from d (r + 1) 0))) e
  one r false e = ap (λ (t : Bool). length (cond t (object_recorded d r ∷ recorded_from d (r + 1) 0) (recorded_from d (r + 1) 0))) e

  before_one : (r : ℕ) (t : Bool) → is_object d r ≡ t → objects_before d (r + 1) ≡ objects_before d r + cond t 1 0
  before_one r t e =
      let s : r + 1 - r ≡ 1 = omega arith in
      before_more r (r + 1) (omega arith) ∙ ap (λ (m : ℕ). objects_before d r + m) (ap (λ (m : ℕ). length (recorded_from d r m)) s ∙ one r t e)

  pub before_object : (r : ℕ) → is_object d r ≡ true → objects_before d (r + 1) ≡ objects_before d r + 1
  before_object r e = before_one r true e

  pub before_other : (r : ℕ) → is_object d r ≡ false → objects_before d (r + 1) ≡ objects_before d r
  before_other r e = let z : objects_before d r + 0 ≡ objects_before d r = omega arith in before_one r false e ∙ z

  pub before_less : (a b : ℕ) → is_object d a ≡ true → a < b → objects_before d a < objects_before d b
  before_less a b e h = omega (arith, before_object a e, before_mono (a + 1) b (omega arith))

pub spot_first : (d : List ℕ) (n : ℕ) → Spotted d n 0 0
spot_first d n = let e : n - 0 ≡ n = omega arith in record { within = omega arith; rest = ap (recorded_from d 0) e }

-- n records
module _ (d : List ℕ) (n : ℕ) where
  cut : (r : ℕ) → r ≤ n → objects_recorded d n ≡ recorded_from d 0 r ++ recorded_from d r (n - r)
  cut r h =
      let e : n ≡ r + (n - r) = omega arith in
      let z : 0 + r ≡ r = omega arith in
      ap (recorded_from d 0) e ∙ parts d 0 r (n - r) ∙ ap (λ (x : ℕ). recorded_from d 0 r ++ recorded_from d x (n - r)) z

  pub spot_at : (r : ℕ) → r ≤ n → Spotted d n (objects_before d r) r
  spot_at r h =
      record {
        within = h;
        rest = sym (ap (drop (objects_before d r)) (cut r h) ∙ drop_at (recorded_from d 0 r) (recorded_from d r (n - r)) (objects_before d r) refl);
      }

  pub spot_is : (j r : ℕ) → Spotted d n j r → j < length (objects_recorded d n) → objects_before d r ≡ j
  spot_is j r s h =
      let e = ap length s.rest ∙ length-drop j (objects_recorded d n) in
      let m = before_more d r n s.within in
      omega (arith, e, m)

  from_object : (r : ℕ) → r < n → is_object d r ≡ true → recorded_from d r (n - r) ≡ object_recorded d r ∷ recorded_from d (r + 1) (n - (r + 1))
  unfolding recorded_from
  from_object r h e =
      let m : n - r ≡ suc (n - (r + 1)) = omega arith in
      ap (recorded_from d r) m ∙ ap (λ (t : Bool). cond t (object_recorded d r ∷ recorded_from d (r + 1) (n - (r + 1))) (recorded_from d (r + 1) (n - (r + 1)))) e

  -- an OBJECT's record holds the object whose number is the count of those before
  pub holds_at : (r : ℕ) → r < n → is_object d r ≡ true → Holds d n (objects_before d r) r
  holds_at r h e =
      let l : r ≤ n = omega arith in
      record {
        below = h;
        kind = e;
        object =
            ap (λ (os : List Object). object_at os (objects_before d r)) (cut r l ∙ ap (λ (os : List Object). recorded_from d 0 r ++ os) (from_object r h e))
            ∙ get_or_at (recorded_from d 0 r) (object_recorded d r) (recorded_from d (r + 1) (n - (r + 1))) no_object (objects_before d r) refl;
        spot = spot_at r l;
      }

  pub holds_is : (k r : ℕ) → Holds d n k r → objects_before d r ≡ k
  holds_is k r h =
      let e = ap length h.spot.rest ∙ length-drop k (objects_recorded d n) in
      let m = before_more d r n h.spot.within in
      let l = before_less d r n h.kind h.below in
      spot_is k r h.spot (omega (arith, e, m, l))

  pub holds_known : (k r : ℕ) → Holds d n k r → k < length (objects_recorded d n)
  holds_known k r h = omega (arith, holds_is k r h, before_less d r n h.kind h.below)

  -- records stand in the order of their objects
  module _ (j r k s : ℕ) (hj : Holds d n j r) (hk : Holds d n k s) where
    pub holds_less : r < s → j < k
    holds_less l = omega (arith, holds_is j r hj, holds_is k s hk, before_less d r s hj.kind l)

    pub holds_before : j < k → r < s
    holds_before l =
        by_test (ltb r s) (λ t. ltb-true r s t)
        (λ t. absurd (omega (arith, holds_is j r hj, holds_is k s hk, before_mono d s r (ltb-false r s t))))

-- every object has a record
pub record Held (d : List ℕ) (n k : ℕ) : Type 0 where
  pub at : ℕ
  pub holds : Holds d n k at

module _ (d : List ℕ) (n k : ℕ) where
  find : (m : ℕ) → m ≤ n → k < objects_before d m → Held d n k
  unfolding recorded_from
  find zero l h = absurd (omega arith)
  find (suc m) l h = by_test (ltb k (objects_before d m)) (λ t. find m (omega arith) (ltb-true k (objects_before d m) t)) (λ t. go (is_object d m) refl (ltb-false k (objects_before d m) t))
    where
      more : k < objects_before d (m + 1)
      more = subst (λ (x : ℕ). k < objects_before d x) (sym (add-one m)) h

      go : (t : Bool) → is_object d m ≡ t → objects_before d m ≤ k → Held d n k
      go true e z =
          let q : objects_before d m ≡ k = omega (arith, before_object d m e, more) in
          record { at = m; holds = subst (λ (i : ℕ). Holds d n i m) q (holds_at d n m (omega arith) e) }
      go false e z = absurd (omega (arith, before_other d m e, more))

  pub held : k < length (objects_recorded d n) → Held d n k
  held h = find n (omega arith) h

-- the last word of an OBJECT's record is its object's number
module _ (d : List ℕ) (n : ℕ) (numbered : Numbered d n) where
  pub number_holds : (r : ℕ) → r < n → is_object d r ≡ true → Holds d n (word_at d r 15) r
  number_holds r h e = subst (λ (k : ℕ). Holds d n k r) (sym (numbered r h e)) (holds_at d n r h e)

  pub holds_number : (k r : ℕ) → Holds d n k r → word_at d r 15 ≡ k
  holds_number k r h = numbered r h.below h.kind ∙ holds_is d n k r h

  -- an OBJECT's record has a lower number than object k where it stands before k's, and there alone
  module _ (k own r : ℕ) (h : Holds d n k own) (l : r < n) (e : is_object d r ≡ true) where
    pub number_less : r < own → word_at d r 15 < k
    number_less q = holds_less d n (word_at d r 15) r k own (number_holds r l e) h q

    pub number_before : word_at d r 15 < k → r < own
    number_before q = holds_before d n (word_at d r 15) r k own (number_holds r l e) h q

-- what `step_to` shows
module _ (d : List ℕ) (k r : ℕ) (t : Bool) (et : t ≡ is_object d r) where
  pub step_other : not t ≡ true → 1 ≡ step_to d k r
  unfolding step_to
  step_other q = simp (sym et ∙ not-true t q)

  module _ (i : ℕ) (q : not t ≡ false) (ei : i ≡ word_at d r 15) where
    pub step_below : (is_object d r ≡ true → word_at d r 15 ≤ k) → i ≤ k
    step_below h = omega (arith, h (sym et ∙ not-false t q))

    pub step_object : k - i ≡ step_to d k r
    unfolding step_to
    step_object = simp (sym et ∙ not-false t q) (ap (λ (x : ℕ). k - x) ei)

pub known_below : (d : List ℕ) (n k count : ℕ) → count ≡ length (objects_recorded d n) → k < count → k < length (objects_recorded d n)
known_below d n k count e h = omega (arith, e, h)

-- the walk to object k: it never passes k's record
module _ (d : List ℕ) (n k r : ℕ) (hk : k < length (objects_recorded d n)) (inv : objects_before d r ≤ k) where
  pub walk_in : r < n
  walk_in = by_test (ltb r n) (λ t. ltb-true r n t) (λ t. absurd (omega (arith, before_mono d n r (ltb-false r n t))))

  module _ (numbered : Numbered d n) where
    pub walk_number : is_object d r ≡ true → word_at d r 15 ≤ k
    walk_number e = omega (arith, numbered r walk_in e)

    module _ (m : ℕ) (em : m ≡ step_to d k r) where
      pub walk_next : objects_before d (r + m) ≤ k
      unfolding step_to
      walk_next = go (is_object d r) refl em
        where
          go : (t : Bool) → is_object d r ≡ t → m ≡ cond t (k - word_at d r 15) 1 → objects_before d (r + m) ≤ k
          go true e q = omega (arith, q, numbered r walk_in e, before_few d r (r + m) (omega arith))
          go false e q = subst (λ (x : ℕ). objects_before d (r + x) ≤ k) (sym q) (omega (arith, before_other d r e))

      pub walk_there : m ≡ 0 → Holds d n k r
      unfolding step_to
      walk_there z = go (is_object d r) refl em
        where
          go : (t : Bool) → is_object d r ≡ t → m ≡ cond t (k - word_at d r 15) 1 → Holds d n k r
          go true e q =
              let i : objects_before d r ≡ k = omega (arith, q, numbered r walk_in e) in
              subst (λ (x : ℕ). Holds d n x r) i (holds_at d n r walk_in e)
          go false e q = absurd (omega (arith, q))

pub walk_first : (d : List ℕ) (n k j at : ℕ) → k < length (objects_recorded d n) → Spotted d n j at → j ≤ k → objects_before d (at + (k - j)) ≤ k
walk_first d n k j at hk s h = omega (arith, spot_is d n j at s (omega arith), before_few d at (at + (k - j)) (omega arith))
