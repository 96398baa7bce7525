-- One turn of a run's loop, and the states as they begin. Assumes nothing.
use mathlib.Core.Path.{◌≡◌, refl, sym, ap, ap₂, subst, ◌∙◌}
use mathlib.Core.Bool.{Bool, true, false, cond, ◌&&◌}
use mathlib.Core.Logic.{◌⊎◌, inl, inr}
use mathlib.Core.List.{List, [], ◌∷◌, ◌++◌}
use Prim.Native.Nat.{ℕ, zero, suc, ◌+◌, ◌/◌, ◌<◌, ◌≤◌}
use native.Mathlib.Numerals.{add-one}
use native.Mathlib.Omega.{arith}
use lib.Dec.{eqb}
use lib.ListN.{length, get_or, set, drop, replicate, drop_of_length-le}
use lib.Seq.{drop-cons, get_or-set_other}
use borrow.Author.Tests.{eqb-true, eqb-false, ne_eqb, leb-false}
use Rattle.laws.specs.Find.{NoneBelow}
use Rattle.laws.proofs.Choices.{by_test, not_both}
use Rattle.runs.specs.declared.Cursors.{Cursors}
use Rattle.objects.specs.Objects.{Object}
use Rattle.objects.specs.Recorded.{word_at, is_object}
use Rattle.runs.specs.Run.{Verdict, state_at, unfinished, starts, state_left, no_fault, verdict_of, after, Ran, run_from, begun}
use Rattle.std.specs.Prelude.{Result, Ok, IfOk}
use Rattle.runs.specs.declared.Fault.{Fault}
use Rattle.runs.specs.Starts.{SoundCursors, first_cursors, judged, Judges}
use Rattle.awaited.specs.Search.{unfinished_at, unfinished_record}
use Rattle.runs.proofs.Named.{passes_known, passes_start}
use Rattle.runs.proofs.Runs.{run_on, run_off}
use Rattle.objects.proofs.Numbers.{spot_first}

-- the states as they begin
pub begun_filled : (l x : List ℕ) (n m : ℕ) → x ≡ replicate m 0 → m ≡ n → x ++ drop n l ≡ begun n l
unfolding begun
begun_filled l x n m e q = ap (λ (y : List ℕ). y ++ drop n l) (e ∙ ap (λ (k : ℕ). replicate k 0) q)

-- a cursor stays sound when the state of an object changes, if what it says of that object still holds
set_either : (states : List ℕ) (k v : ℕ) → (state_at (set states k v) k ≡ v) ⊎ (state_at (set states k v) k ≡ state_at states k)
set_either [] k v = inr refl
set_either (x ∷ xs) zero v = inl refl
set_either (x ∷ xs) (suc k) v = set_either xs k v

none_set : (f : ℕ → Bool) (states : List ℕ) (k v j : ℕ) → NoneBelow (λ i. f (state_at states i)) j → (k < j → f v ≡ false) → NoneBelow (λ i. f (state_at (set states k v) i)) j
none_set f states k v j off new i h = go (eqb i k) refl
  where
    go : (t : Bool) → eqb i k ≡ t → f (state_at (set states k v) i) ≡ false
    go false e = ap f (get_or-set_other states k i v 0 (eqb-false i k e)) ∙ off i h
    go true e =
        let q : i ≡ k = eqb-true i k e in
        subst (λ (m : ℕ). f (state_at (set states k v) m) ≡ false) (sym q) (at (subst (λ (m : ℕ). m < j) q h) (set_either states k v))
      where
        at : k < j → (state_at (set states k v) k ≡ v) ⊎ (state_at (set states k v) k ≡ state_at states k) → f (state_at (set states k v) k) ≡ false
        at l (inl p) = ap f p ∙ new l
        at l (inr p) = ap f p ∙ off k l

-- an event with no fault
pub judged_ok : (d : List ℕ) (n : ℕ) (states : List ℕ) (v : Verdict) (r : Result Cursors Fault) (c : Cursors) → Judges d n states v r → r ≡ Ok c
    → (no_fault ≡ v) × SoundCursors d n states c
judged_ok d n states v r c h e = (sym (ap judged e) ∙ h.verdict, subst (λ (x : Result Cursors Fault). IfOk x (SoundCursors d n states)) e h.cursors)

module _ (objects : List Object) (states : List ℕ) (e : ℕ) (v : Verdict) (ev : v ≡ verdict_of objects states e) where
  abbrev k : ℕ
  k = e / 2

  passes : v.number ≡ 0 → (verdict_of objects states e).number ≡ 0
  passes q = ap (λ (x : Verdict). x.number) (sym ev) ∙ q

  -- an event that passes is of an object
  pub object_known : (N L : ℕ) → N ≡ length objects → N ≤ L → v.number ≡ 0 → k < L
  object_known N L en h q = let l = leb-false (length objects) k (passes_known objects states e (passes q)) in omega arith

  left_on : state_left e ≡ 0 → ⊥
  left_on = go (starts e)
    where
      go : (t : Bool) → ◌≡◌ {A = ℕ} (cond t 1 2) 0 → ⊥
      go true z = omega arith
      go false z = omega arith

  -- a finished object stays finished
  finished_stays : (s i : ℕ) → s ≡ state_left e → v.number ≡ 0 → unfinished_at states i ≡ false → unfinished_at (set states k s) i ≡ false
  finished_stays s i es q z = by_test (eqb i k) same (λ t. ap unfinished (get_or-set_other states k i s 0 (eqb-false i k t)) ∙ z)
    where
      new : unfinished_at states k ≡ false → unfinished s ≡ false
      new y =
          by_test (starts e) (λ o. absurd (not_both (unfinished_at states k) (ap unfinished (passes_start objects states e (passes q) o)) y))
          (λ o. ap unfinished (es ∙ ap (λ (b : Bool). cond b 1 2) o))

      at : unfinished_at states k ≡ false → (state_at (set states k s) k ≡ s) ⊎ (state_at (set states k s) k ≡ state_at states k) → unfinished_at (set states k s) k ≡ false
      at y (inl p) = ap unfinished p ∙ new y
      at y (inr p) = ap unfinished p ∙ y

      same : eqb i k ≡ true → unfinished_at (set states k s) i ≡ false
      same t =
          let p : i ≡ k = eqb-true i k t in
          subst (λ (m : ℕ). unfinished_at (set states k s) m ≡ false) (sym p) (at (subst (λ (m : ℕ). unfinished_at states m ≡ false) p z) (set_either states k s))

  record_stays : (d : List ℕ) (s r : ℕ) → s ≡ state_left e → v.number ≡ 0 → unfinished_record d states r ≡ false → unfinished_record d (set states k s) r ≡ false
  unfolding unfinished_record
  record_stays d s r es q = go (is_object d r)
    where
      go : (t : Bool) → t && unfinished_at states (word_at d r 15) ≡ false → t && unfinished_at (set states k s) (word_at d r 15) ≡ false
      go true z = finished_stays s (word_at d r 15) es q z
      go false z = refl

  pub sound_next : (d : List ℕ) (n : ℕ) (c : Cursors) (s : ℕ) → s ≡ state_left e → SoundCursors d n states c → v.number ≡ 0 → SoundCursors d n (set states k s) c
  sound_next d n c s es h q =
      record {
        started = none_set (λ x. eqb x 0) states k s c.waiting h.started (λ p. ne_eqb s 0 (λ z. left_on (sym es ∙ z)));
        finished = λ j l. finished_stays s j es q (h.finished j l);
        first = h.first;
        latest = h.latest;
        crossed = record { forward = h.crossed.forward; finished = λ r a b. record_stays d s r es q (h.crossed.finished r a b) };
      }

-- one turn: the event e at position i, of the events es, whose count is L
module _ (objects : List Object) (es : List ℕ) (L i : ℕ) (states : List ℕ) (whole : Ran) (el : L ≡ length es) (inv : run_from objects (drop i es) i states ≡ whole) where
  module _ (e : ℕ) (v : Verdict) (h : i < L) (ee : e ≡ get_or es i 0) (ev : v ≡ verdict_of objects states e) where
    here : run_from objects (e ∷ drop (suc i) es) i states ≡ whole
    here =
        ap (λ (x : ℕ). run_from objects (x ∷ drop (suc i) es) i states) ee
        ∙ ap (λ (l : List ℕ). run_from objects l i states) (sym (drop-cons es i 0 (omega arith)))
        ∙ inv

    pub turn_off : (v.number ≡ 0 → ⊥) → record { verdict = v; position = i; states = states } ≡ whole
    turn_off q =
        ap (λ (x : Verdict). record { verdict = x; position = i; states = states }) ev
        ∙ sym (run_off objects e (drop (suc i) es) i states (λ z. q (ap (λ (x : Verdict). x.number) ev ∙ z)))
        ∙ here

    pub turn_next : (s : ℕ) → s ≡ state_left e → v.number ≡ 0 → run_from objects (drop (i + 1) es) (i + 1) (set states (e / 2) s) ≡ whole
    unfolding after
    turn_next s q z =
        ap₂ (λ (m : ℕ) (x : ℕ). run_from objects (drop m es) (i + 1) (set states (e / 2) x)) (add-one i) q
        ∙ sym (run_on objects e (drop (suc i) es) i states (ap (λ (x : Verdict). x.number) (sym ev) ∙ z))
        ∙ here

  pub turn_ended : L ≤ i → record { verdict = no_fault; position = i; states = states } ≡ whole
  unfolding run_from
  turn_ended h = ap (λ (l : List ℕ). run_from objects l i states) (sym (drop_of_length-le es (let z : length es ≤ i = omega arith in z))) ∙ inv

pub turn_first : (objects : List Object) (es states : List ℕ) → run_from objects (drop 0 es) 0 states ≡ run_from objects es 0 states
turn_first objects es states = refl

pub sound_first : (d : List ℕ) (n : ℕ) (states : List ℕ) (c : Cursors) → c ≡ first_cursors → SoundCursors d n states c
sound_first d n states c e =
    subst (SoundCursors d n states) (sym e)
    (record {
      started = λ j h. absurd (omega arith);
      finished = λ j h. absurd (omega arith);
      first = spot_first d n;
      latest = spot_first d n;
      crossed = record { forward = omega arith; finished = λ r a b. absurd (omega arith) };
    })

pub ruleset turns = (turn_off, turn_next, turn_ended, turn_first, sound_first, sound_next)
