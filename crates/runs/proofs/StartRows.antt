-- The judge of a start and of an event: the code's steps are the rows. Assumes nothing.
use mathlib.Core.Path.{◌≡◌, refl, sym, ap, ap₂, subst, ◌∙◌}
use mathlib.Core.Bool.{Bool, true, false, not, cond, ◌&&◌}
use mathlib.Core.List.{List}
use Prim.Native.Nat.{ℕ, ◌/◌, ◌%◌, ◌<◌, ◌≤◌, min}
use native.Mathlib.Omega.{arith}
use lib.Dec.{T, ltb, leb, eqb}
use lib.ListN.{length, get_or}
use borrow.Author.Tests.{eq-eqb, ne_eqb, lt-ltb, le-ltb, ltb-true, ltb-false, le-leb, lt-leb, leb-true}
use Rattle.laws.specs.Find.{NoneBelow}
use Rattle.awaited.specs.declared.Stretch.{Stretch}
use Rattle.awaited.specs.Search.{unfinished_at, Crossed}
use Rattle.runs.specs.declared.Cursors.{Cursors}
use Rattle.objects.specs.declared.Spot.{Spot}
use Rattle.objects.specs.Objects.{Object, object_with, object_at}
use Rattle.runs.specs.Run.{Verdict, state_at, lowest_waiting, fault, no_fault, verdict_of}
use Rattle.objects.specs.Recorded.{object_recorded, objects_recorded, Spotted, Holds, stalls_at}
use Rattle.runs.specs.Starts.{wait_verdict, start_verdict, nearest_of, SoundCursors}

pub nearest_last : (c : Cursors) (k : ℕ) → c.last.object ≤ k → c.last ≡ nearest_of c k
unfolding nearest_of
nearest_last c k h = simp (le-leb c.last.object k h)

pub nearest_first : (c : Cursors) (k : ℕ) → k < c.last.object → c.unfinished ≡ nearest_of c k
unfolding nearest_of
nearest_first c k h = simp (lt-leb c.last.object k h)

-- an object in state 0 is not below the first unfinished
module _ (d : List ℕ) (n : ℕ) (states : List ℕ) (c : Cursors) (k : ℕ) (sound : SoundCursors d n states c) (z : state_at states k ≡ 0) where
  pub first_before : c.unfinished.object ≤ k
  first_before = go (ltb k c.unfinished.object) refl
    where
      go : (t : Bool) → ltb k c.unfinished.object ≡ t → c.unfinished.object ≤ k
      go false e = ltb-false k c.unfinished.object e
      go true e = absurd (subst T (sym (ap (λ (s : ℕ). not (eqb s 2)) z) ∙ sound.finished k (ltb-true k c.unfinished.object e)) tt)

  module _ (s : Spot) (e : s ≡ nearest_of c k) where
    pub nearest_spot : Spotted d n s.object s.at
    unfolding nearest_of
    nearest_spot = subst (λ (x : Spot). Spotted d n x.object x.at) (sym e) (go (leb c.last.object k))
      where
        go : (t : Bool) → Spotted d n (cond t c.last c.unfinished).object (cond t c.last c.unfinished).at
        go true = sound.latest
        go false = sound.first

    pub nearest_before : s.object ≤ k
    unfolding nearest_of
    nearest_before = subst (λ (x : Spot). x.object ≤ k) (sym e) (go (leb c.last.object k) refl)
      where
        go : (t : Bool) → leb c.last.object k ≡ t → (cond t c.last c.unfinished).object ≤ k
        go true q = leb-true c.last.object k q
        go false q = first_before

-- rows 24 and 25: b says whether the object of record own stalls, and w is the lowest in state 0
and_and : (a b c : Bool) → (a && b) && c ≡ a && b && c
and_and true b c = refl
and_and false b c = refl

module _ (d : List ℕ) (n : ℕ) (states : List ℕ) (k own : ℕ) (b : Bool) (hk : Holds d n k own) (eb : b ≡ stalls_at d own) where
  abbrev objects : List Object
  objects = objects_recorded d n

  abbrev row24 : Bool
  row24 = (object_at objects k).uses && eqb (object_at objects k).type 0 && ltb (lowest_waiting states k) k

  row_24 : row24 ≡ b && ltb (lowest_waiting states k) k
  unfolding stalls_at object_recorded object_with
  row_24 =
      sym (and_and (object_at objects k).uses (eqb (object_at objects k).type 0) (ltb (lowest_waiting states k) k))
      ∙ ap (λ (t : Bool). t && ltb (lowest_waiting states k) k) (ap (λ (o : Object). o.uses && eqb o.type 0) hk.object ∙ sym eb)

  off_24 : (v : Verdict) → row24 ≡ false → v ≡ wait_verdict objects states k → v ≡ start_verdict objects states k
  unfolding start_verdict
  off_24 v q e = e ∙ ap (λ (t : Bool). cond t (fault 24 (lowest_waiting states k) 0) (wait_verdict objects states k)) (sym q)

  pub start_unstalled : (v : Verdict) → b ≡ false → v ≡ wait_verdict objects states k → v ≡ start_verdict objects states k
  start_unstalled v q e = off_24 v (row_24 ∙ ap (λ (t : Bool). t && ltb (lowest_waiting states k) k) q) e

  module _ (w : ℕ) (q : b ≡ true) (ew : min w k ≡ lowest_waiting states k) where
    pub start_24 : w < k → fault 24 w 0 ≡ start_verdict objects states k
    unfolding start_verdict
    start_24 l =
        let m : lowest_waiting states k ≡ w = omega arith in
        let t = row_24 ∙ ap₂ (λ (x : Bool) (y : ℕ). x && ltb y k) q m ∙ lt-ltb w k l in
        ap (λ (x : ℕ). fault 24 x 0) (sym m) ∙ ap (λ (x : Bool). cond x (fault 24 (lowest_waiting states k) 0) (wait_verdict objects states k)) (sym t)

    pub start_25 : (v : Verdict) → k ≤ w → v ≡ wait_verdict objects states k → v ≡ start_verdict objects states k
    start_25 v l e =
        let m : k ≤ lowest_waiting states k = omega arith in
        off_24 v (row_24 ∙ ap₂ ◌&&◌ q (le-ltb (lowest_waiting states k) k m)) e

-- where the next start goes on
module _ (d : List ℕ) (n : ℕ) (states : List ℕ) (c : Cursors) (h : SoundCursors d n states c) where
  pub searched_sound : (u at : ℕ) (s : Stretch) → NoneBelow (unfinished_at states) u → Holds d n u at → Crossed d states s
      → SoundCursors d n states (record { waiting = c.waiting; unfinished = record { object = u; at = at }; last = c.last; crossed = s })
  searched_sound u at s off hu k = record { started = h.started; finished = off; first = hu.spot; latest = h.latest; crossed = k }

-- the rows of an event e: N is the number of objects, s the state of its object
module _ (objects : List Object) (states : List ℕ) (e N : ℕ) (en : N ≡ length objects) where
  pub row_21 : N ≤ e / 2 → fault 21 0 0 ≡ verdict_of objects states e
  unfolding verdict_of
  row_21 h = let l : length objects ≤ e / 2 = omega arith in simp (le-leb (length objects) (e / 2) l)

  module _ (s : ℕ) (h : e / 2 < N) (es : s ≡ get_or states (e / 2) 0) where
    known : leb (length objects) (e / 2) ≡ false
    known = lt-leb (length objects) (e / 2) (omega arith)

    pub row_23 : e % 2 ≡ 1 → (s ≡ 1 → ⊥) → fault 23 0 0 ≡ verdict_of objects states e
    unfolding verdict_of
    row_23 o q = simp (known, ne_eqb (e % 2) 0 (λ z. omega arith), eq-eqb (e % 2) 1 o, ne_eqb (get_or states (e / 2) 0) 1 (λ z. q (es ∙ z)))

    pub row_finish : e % 2 ≡ 1 → s ≡ 1 → no_fault ≡ verdict_of objects states e
    unfolding verdict_of
    row_finish o q = simp (known, ne_eqb (e % 2) 0 (λ z. omega arith), eq-eqb (e % 2) 1 o, eq-eqb (get_or states (e / 2) 0) 1 (sym es ∙ q))

    module _ (o : e % 2 ≡ 1 → ⊥) where
      even : eqb (e % 2) 0 ≡ true
      even = eq-eqb (e % 2) 0 (omega arith)

      pub row_22 : (s ≡ 0 → ⊥) → fault 22 0 0 ≡ verdict_of objects states e
      unfolding verdict_of
      row_22 q = simp (known, even, ne_eqb (get_or states (e / 2) 0) 0 (λ z. q (es ∙ z)))

      pub row_start : (v : Verdict) → s ≡ 0 → v ≡ start_verdict objects states (e / 2) → v ≡ verdict_of objects states e
      unfolding verdict_of start_verdict wait_verdict
      row_start v q ev = ev ∙ simp (known, even, ne_eqb (e % 2) 1 o, eq-eqb (get_or states (e / 2) 0) 0 (sym es ∙ q))

pub ruleset row_laws = (row_21, row_22, row_23, row_finish, row_start)
