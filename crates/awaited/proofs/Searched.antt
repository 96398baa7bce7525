-- The search over records: each of its steps. Assumes nothing.
use mathlib.Core.Path.{◌≡◌, refl, sym, ap, subst, ◌∙◌}
use mathlib.Core.Bool.{Bool, true, false, not, cond, ◌&&◌}
use mathlib.Core.List.{List}
use Prim.Native.Nat.{ℕ, ◌+◌, ◌<◌, ◌≤◌}
use native.Mathlib.Omega.{arith}
use lib.Dec.{ltb, eqb}
use lib.ListN.{length, get_or}
use borrow.Author.Tests.{eq-eqb, eqb-true, ne_eqb, lt-ltb, ltb-true, ltb-false, not-true, not-false}
use Rattle.std.specs.Prelude.{Option, Some, None, unwrap_or, IfSome, is_some}
use Rattle.laws.specs.Find.{find_first, NoneBelow}
use Rattle.laws.proofs.Choices.{by_test, not_both}
use Rattle.laws.proofs.Find.{find_at, find_before, none_next, found, none}
use Rattle.deltas.specs.Reach.{rows_of}
use Rattle.deltas.proofs.Reached.{rows_long}
use Rattle.objects.specs.declared.Candidate.{Candidate}
use Rattle.objects.specs.Recorded.{word_at, is_object, candidate_of, delta_to, near_at, reached_at}
use Rattle.objects.proofs.RecordWords.{far_unreached, unreached}
use Rattle.awaited.proofs.Turns.{told}
use Rattle.awaited.specs.declared.Stretch.{Stretch}
use Rattle.awaited.specs.First.{Passed, Tells}
use Rattle.awaited.specs.Search.{unfinished_at, unfinished_record, awaited_record, QuickTest, Crossed, past_of, kept_of}

pub and_false_left : (a b : Bool) → a ≡ false → a && b ≡ false
and_false_left a b e = ap (λ (t : Bool). t && b) e

pub and_false_right : (a b : Bool) → b ≡ false → a && b ≡ false
and_false_right true b e = e
and_false_right false b e = refl

-- what the tests of one record show: t says whether it is an OBJECT's, s is the state of its object
module _ (d states : List ℕ) (r : ℕ) (t : Bool) (et : t ≡ is_object d r) where
  pub unfinished_other : not t ≡ true → false ≡ unfinished_record d states r
  unfolding unfinished_record
  unfinished_other q = sym (and_false_left (is_object d r) _ (sym et ∙ not-true t q))

  module _ (q : not t ≡ false) (j : ℕ) (ej : j ≡ word_at d r 15) where
    pub unfinished_room : (is_object d r ≡ true → word_at d r 15 < length states) → j < length states
    unfinished_room h = omega (arith, h (sym et ∙ not-false t q))

    pub unfinished_state : not (eqb (get_or states j 0) 2) ≡ unfinished_record d states r
    unfolding unfinished_record
    unfinished_state =
        ap (λ (i : ℕ). unfinished_at states i) ej
        ∙ ap (λ (b : Bool). b && unfinished_at states (word_at d r 15)) (sym (not-false t q) ∙ et)

pub ruleset unfinished_laws = (unfinished_other, unfinished_room, unfinished_state)

-- a delta below 8, or none
some_below : (o : Option ℕ) → IfSome o (λ i. i < 8) → is_some o ≡ ltb (unwrap_or o 8) 8
some_below (Some i) h = sym (lt-ltb i 8 h)
some_below None h = refl

module _ (d states : List ℕ) (c : Candidate) (r : ℕ) where
  pub finished_unawaited : unfinished_record d states r ≡ false → awaited_record d states c r ≡ false
  unfolding awaited_record
  finished_unawaited e = and_false_left (unfinished_record d states r) _ e

  pub unawaited_far : delta_to d c r ≡ 8 → awaited_record d states c r ≡ false
  unfolding awaited_record
  unawaited_far e = and_false_right (unfinished_record d states r) _ (ap (λ (i : ℕ). ltb i 8) e)

  module _ (t : Bool) (et : t ≡ unfinished_record d states r) where
    pub awaited_finished : not t ≡ true → false ≡ awaited_record d states c r
    awaited_finished q = sym (finished_unawaited (sym et ∙ not-true t q))

    pub awaited_delta : (o : Option ℕ) → not t ≡ false → unwrap_or o 8 ≡ delta_to d c r → IfSome o (λ i. i < 8) → is_some o ≡ awaited_record d states c r
    unfolding awaited_record
    awaited_delta o q e h =
        some_below o h ∙ ap (λ (x : ℕ). ltb x 8) e ∙ ap (λ (b : Bool). b && ltb (delta_to d c r) 8) (sym (not-false t q) ∙ et)

-- one turn of a search: t says whether it ends here
module _ (f : ℕ → Bool) (to r : ℕ) (off : NoneBelow f r) where
  module _ (t : Bool) (et : t ≡ f r) (h : r < to) where
    pub turn_found : t ≡ true → r ≡ find_first to f
    turn_found q = sym (found f to r h off (sym et ∙ q))

    pub turn_next : t ≡ false → NoneBelow f (r + 1)
    turn_next q = none_next f r off (sym et ∙ q)

-- what is not near fails the quick test
pub near_passed : (d : List ℕ) (corner : ℕ) (rows : List ℕ) (a b r : ℕ) → Passed (Tells (near_at d corner)) a b r → Passed (Tells (reached_at d corner rows)) a b r
near_passed d corner rows a b r h =
    told (Tells (near_at d corner)) (reached_at d corner rows) a b r (λ i e. sym (far_unreached d corner rows i (sym e))) h

pub quick_test : (d : List ℕ) (own : ℕ) (c : Candidate) (rows : List ℕ) → c ≡ candidate_of d own → rows ≡ rows_of c.deltas.mask c.deltas.d6 c.deltas.d7 → QuickTest d c rows
quick_test d own c rows ec er =
    record { sixteen = ap length er ∙ rows_long c.deltas.mask c.deltas.d6 c.deltas.d7; unreached = λ r e. unreached d own r c rows ec er e }

-- those that fail the quick test are not awaited
module _ (d states : List ℕ) (c : Candidate) (rows : List ℕ) (quick : QuickTest d c rows) (a b r : ℕ) (h : Passed (Tells (reached_at d c.corner rows)) a b r) where
  pub passed_unawaited : NoneBelow (awaited_record d states c) a → NoneBelow (awaited_record d states c) r
  passed_unawaited off i q =
      by_test (ltb i a) (λ t. off i (ltb-true i a t))
      (λ t. unawaited_far d states c i (quick.unreached i (sym (h.none i (ltb-false i a t) q))))

-- a search ends at its bound at the latest, and not before where it began
pub find_most : (f : ℕ → Bool) (n : ℕ) → find_first n f ≤ n
find_most f n =
    by_test (ltb n (find_first n f))
    (λ t. let l = ltb-true n (find_first n f) t in omega (arith, none f n (find_first n f) (omega arith) (λ i q. find_before f n i q)))
    (λ t. ltb-false n (find_first n f) t)

pub find_least : (f : ℕ → Bool) (n j : ℕ) → NoneBelow f j → j ≤ n → j ≤ find_first n f
find_least f n j off h =
    by_test (ltb (find_first n f) j)
    (λ t. let l = ltb-true (find_first n f) j t in absurd (not_both (f (find_first n f)) (find_at f n (omega arith)) (off (find_first n f) l)))
    (λ t. ltb-false (find_first n f) j t)

pub search_none : (f : ℕ → Bool) (own r : ℕ) → NoneBelow f r → own ≤ r → own ≡ find_first own f
search_none f own r off h = sym (none f own r h off)

-- the stretch crossed last
pub past_on : (s : Stretch) (r : ℕ) → s.from ≡ r → s.to ≡ past_of s r
unfolding past_of
past_on s r e = simp (eq-eqb s.from r e)

pub past_off : (s : Stretch) (r : ℕ) → (s.from ≡ r → ⊥) → r ≡ past_of s r
unfolding past_of
past_off s r n = simp (ne_eqb s.from r n)

pub kept_old : (s : Stretch) (a b : ℕ) → a ≡ b → s ≡ kept_of s a b
unfolding kept_of
kept_old s a b e = simp (eq-eqb a b e)

pub kept_new : (s : Stretch) (a b : ℕ) → (a ≡ b → ⊥) → ◌≡◌ {A = Stretch} (record { from = a; to = b }) (kept_of s a b)
unfolding kept_of
kept_new s a b n = simp (ne_eqb a b n)

pub crossed_none : (d states : List ℕ) (a : ℕ) → Crossed d states (record { from = a; to = a })
crossed_none d states a = record { forward = omega arith; finished = λ r p q. absurd (omega arith) }

module _ (d states : List ℕ) (s : Stretch) (h : Crossed d states s) where
  pub past_crossed : (a r : ℕ) → r ≡ past_of s a → Crossed d states (record { from = a; to = r })
  unfolding past_of
  past_crossed a r e = subst (λ (x : ℕ). Crossed d states (record { from = a; to = x })) (sym e) (go (eqb s.from a) refl)
    where
      go : (t : Bool) → eqb s.from a ≡ t → Crossed d states (record { from = a; to = cond t s.to a })
      go true q = let z = eqb-true s.from a q in record { forward = omega (arith, h.forward); finished = λ i l m. h.finished i (omega arith) m }
      go false q = crossed_none d states a

  pub kept_crossed : (a b : ℕ) (x : Stretch) → x ≡ kept_of s a b → Crossed d states (record { from = a; to = b }) → Crossed d states x
  unfolding kept_of
  kept_crossed a b x e k = subst (Crossed d states) (sym e) (go (eqb a b))
    where
      go : (t : Bool) → Crossed d states (cond t s (record { from = a; to = b }))
      go true = h
      go false = k

pub cross_on : (d states : List ℕ) (a r b s : ℕ) → Crossed d states (record { from = a; to = r }) → Passed (Tells (unfinished_record d states)) r b s
    → Crossed d states (record { from = a; to = s })
cross_on d states a r b s h k =
    record {
      forward = omega (arith, h.forward, k.after);
      finished = λ i p q. by_test (ltb i r) (λ t. h.finished i p (ltb-true i r t)) (λ t. sym (k.none i (ltb-false i r t) q));
    }

-- after a block without a record awaited, up to `end`, finished objects were crossed up to r
module _ (d states : List ℕ) (c : Candidate) (end at : ℕ) (ea : at ≡ find_first end (awaited_record d states c)) where
  pub block_found : (own : ℕ) → at < end → end ≤ own → at ≡ find_first own (awaited_record d states c)
  block_found own h l =
      let f = awaited_record d states c in
      let b : find_first end f < end = omega arith in
      ea ∙ sym (found f own (find_first end f) (omega arith) (λ i q. find_before f end i q) (find_at f end b))

  pub block_crossed : (r : ℕ) → end ≤ at → Crossed d states (record { from = end; to = r }) → NoneBelow (awaited_record d states c) r
  block_crossed r h k i q =
      by_test (ltb i end)
      (λ t. let l = ltb-true i end t in find_before (awaited_record d states c) end i (omega arith))
      (λ t. finished_unawaited d states c i (k.finished i (ltb-false i end t) q))
