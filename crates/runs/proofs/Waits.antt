-- Who waits for whom: the definition and the words of the laws say the same. Assumes nothing.
use mathlib.Core.Path.{◌≡◌, refl, sym, ap, subst, subst⁻¹, ◌∙◌}
use mathlib.Core.Bool.{Bool, true, false, cond, ◌&&◌, ◌||◌}
use mathlib.Core.List.Memᴰ
use mathlib.Core.List.{List, [], ◌∷◌, Memᴰ, map}
use mathlib.Core.Logic.{◌⊎◌, inl, inr}
use Prim.Native.Nat.{ℕ, ◌<◌, ◌≤◌, min}
use native.Mathlib.Omega.{arith}
use lib.Dec.{T, ltb, ltb→lt}
use lib.IntN.{ℤ, pos, negsuc}
use borrow.Author.Tests.{ltb-true, ltb-false, lt-ltb, eqb-true, eqb-false, eq-eqb, ne_eqb, not-true}
use Rattle.laws.specs.BitRanges.{bits, field}
use Rattle.deltas.specs.InPlay.{bit_set, uses_scoreboard, those, eight, set_in_both, in_play_of}
use Rattle.deltas.specs.Whole.{eq_ℤ}
use Rattle.deltas.specs.Meets.{reaches, meets_at}
use Rattle.objects.specs.Objects.{Delta, Object, meets, delta_at, object_with, object_at}
use Rattle.runs.specs.Run.{state_at, some_of, lowest_of, waits_for}
use Rattle.runs.specs.Waits.{Leads, Waits}
use Rattle.laws.proofs.Choices.{and_left, and_right}
use Rattle.laws.proofs.Tests.{both_left, both_right}
use Rattle.deltas.proofs.Signed.{eq_ℤ→eq}

pub join : (a b : Bool) → a ≡ true → b ≡ true → a && b ≡ true
join a b p q = simp (p, q)

eq_ℤ-true : (a b : ℤ) → eq_ℤ a b ≡ true → a ≡ b
eq_ℤ-true a b e = eq_ℤ→eq a b (subst T (sym e) tt)

eq_ℤ_refl : (a : ℤ) → eq_ℤ a a ≡ true
eq_ℤ_refl (pos a) = eq-eqb a a refl
eq_ℤ_refl (negsuc a) = eq-eqb a a refl

eq_ℤ_of : (a b : ℤ) → a ≡ b → eq_ℤ a b ≡ true
eq_ℤ_of a b e = subst (λ (z : ℤ). eq_ℤ a z ≡ true) e (eq_ℤ_refl a)

-- a delta in play that meets j leads to it
module _ (k j : Object) where
  pub met : (d : Delta) → Memᴰ d k.in_play → meets k j d ≡ true → Leads k j d
  unfolding meets_at reaches
  met d m e =
      record {
        in_play = m;
        to_x = eq_ℤ-true _ _ (and_left (reaches k.x d.dx j.x) (reaches k.y d.dy j.y) e);
        to_y = eq_ℤ-true _ _ (and_right (reaches k.x d.dx j.x) (reaches k.y d.dy j.y) e);
      }

  pub led : (d : Delta) → Leads k j d → meets k j d ≡ true
  unfolding meets_at reaches
  led d l = join (reaches k.x d.dx j.x) (reaches k.y d.dy j.y) (eq_ℤ_of _ _ l.to_x) (eq_ℤ_of _ _ l.to_y)

-- one of a list
pub record One (f : Delta → Bool) (ds : List Delta) : Type 0 where
  pub one : Delta
  pub among : Memᴰ one ds
  pub holds : f one ≡ true

abbrev later : (f : Delta → Bool) (d : Delta) (ds : List Delta) → One f ds → One f (d ∷ ds)
later f d ds o = record { one = o.one; among = Memᴰ.tail o.among; holds = o.holds }

pub some_one : (f : Delta → Bool) (ds : List Delta) → some_of f ds ≡ true → One f ds
some_one f [] e = absurd (subst T (sym e) tt)
some_one f (d ∷ ds) e = go (f d) refl (some_one f ds) e
  where
    go : (t : Bool) → f d ≡ t → (some_of f ds ≡ true → One f ds) → t || some_of f ds ≡ true → One f (d ∷ ds)
    go true p ih q = record { one = d; among = Memᴰ.head refl; holds = p }
    go false p ih q = later f d ds (ih q)

pub one_some : (f : Delta → Bool) (ds : List Delta) (d : Delta) → Memᴰ d ds → f d ≡ true → some_of f ds ≡ true
one_some f [] d m e = absurd (Memᴰ.not-nil m)
one_some f (x ∷ ds) d m e = go (f x) refl (λ n. one_some f ds d n e) (Memᴰ.cases_cons m)
  where
    go : (t : Bool) → f x ≡ t → (Memᴰ d ds → some_of f ds ≡ true) → (d ≡ x) ⊎ Memᴰ d ds → t || some_of f ds ≡ true
    go true p ih c = refl
    go false p ih (inl q) = absurd (subst T (sym e ∙ ap f q ∙ p) tt)
    go false p ih (inr n) = ih n

-- the lowest of a list: none of those for which the test holds is lower, and below 8 it is one of them
picked_le : (t : Bool) (i l n : ℕ) → ((t ≡ true) × (i ≤ n)) ⊎ (l ≤ n) → cond t (min i l) l ≤ n
picked_le true i l n (inl q) = omega (arith, q.1)
picked_le true i l n (inr q) = omega arith
picked_le false i l n (inl q) = absurd (subst T (sym q.0) tt)
picked_le false i l n (inr q) = q

pub lowest_le : (f : Delta → Bool) (ds : List Delta) (d : Delta) → Memᴰ d ds → f d ≡ true → lowest_of f ds ≤ d.index
lowest_le f [] d m e = absurd (Memᴰ.not-nil m)
lowest_le f (x ∷ ds) d m e = picked_le (f x) _ (lowest_of f ds) d.index (go (λ n. lowest_le f ds d n e) (Memᴰ.cases_cons m))
  where
    go : (Memᴰ d ds → lowest_of f ds ≤ d.index) → (d ≡ x) ⊎ Memᴰ d ds → ((f x ≡ true) × (x.index ≤ d.index)) ⊎ (lowest_of f ds ≤ d.index)
    go ih (inl q) = let i : d.index ≡ x.index = ap (λ (y : Delta). y.index) q in inl (sym (ap f q) ∙ e, omega arith)
    go ih (inr n) = inr (ih n)

pub record Lowest (f : Delta → Bool) (ds : List Delta) (n : ℕ) : Type 0 where
  pub found : One f ds
  pub number : found.one.index ≡ n

pub lowest_one : (f : Delta → Bool) (ds : List Delta) → lowest_of f ds < 8 → Lowest f ds (lowest_of f ds)
lowest_one f [] h = absurd (omega arith)
lowest_one f (x ∷ ds) h = go (f x) refl (ltb (lowest_of f ds) x.index) refl (lowest_one f ds) h
  where
    go : (t : Bool) → f x ≡ t → (b : Bool) → ltb (lowest_of f ds) x.index ≡ b → (lowest_of f ds < 8 → Lowest f ds (lowest_of f ds))
        → cond t (min x.index (lowest_of f ds)) (lowest_of f ds) < 8 → Lowest f (x ∷ ds) (cond t (min x.index (lowest_of f ds)) (lowest_of f ds))
    go true p true q ih h =
        let l : lowest_of f ds < x.index = ltb-true (lowest_of f ds) x.index q in
        let m : lowest_of f ds ≡ min x.index (lowest_of f ds) = omega arith in
        let o = ih (subst⁻¹ (λ (n : ℕ). n < 8) m h) in
        record { found = later f x ds o.found; number = o.number ∙ m }
    go true p false q ih h =
        let l : x.index ≤ lowest_of f ds = ltb-false (lowest_of f ds) x.index q in
        record { found = record { one = x; among = Memᴰ.head refl; holds = p }; number = omega arith }
    go false p b q ih h = let o = ih h in record { found = later f x ds o.found; number = o.number }

five : (p q r s t : Bool) → p && q && r && s && t ≡ true → (p ≡ true) × (q ≡ true) × (r ≡ true) × (s ≡ true) × (t ≡ true)
five true true true true true h = (refl, refl, refl, refl, refl)
five true true true true false h = absurd (subst T (sym h) tt)
five true true true false t h = absurd (subst T (sym h) tt)
five true true false s t h = absurd (subst T (sym h) tt)
five true false r s t h = absurd (subst T (sym h) tt)
five false q r s t h = absurd (subst T (sym h) tt)

-- the definition says what the words say, and the other way round
module _ (objects : List Object) (states : List ℕ) (k j : ℕ) where
  abbrev deltas : List Delta
  deltas = (object_at objects k).in_play

  abbrev test : Delta → Bool
  test = meets (object_at objects k) (object_at objects j)

  pub waits : waits_for objects states k j ≡ true → Waits objects states k j
  unfolding waits_for
  waits h =
      let g = five _ _ _ _ _ h in
      let o = some_one test deltas g.4 in
      record {
        earlier = ltb-true _ _ g.0;
        unfinished = eqb-false _ _ (not-true _ g.1);
        uses = g.2;
        colour = eqb-true _ _ g.3;
        by = o.one;
        leads = met (object_at objects k) (object_at objects j) o.one o.among o.holds;
      }

  pub waited : Waits objects states k j → waits_for objects states k j ≡ true
  unfolding waits_for
  waited w =
      simp (
        lt-ltb j k w.earlier,
        ne_eqb (state_at states j) 2 w.unfinished,
        w.uses,
        eq-eqb (object_at objects j).colour (object_at objects k).colour w.colour,
        one_some test deltas w.by w.leads.in_play (led (object_at objects k) (object_at objects j) w.by w.leads),
      )

-- every delta in play of a command's object is one of the eight
abbrev all_below : List ℕ → Bool
all_below [] = true
all_below (i ∷ is) = ltb i 8 && all_below is

index_below : (d6 d7 : ℕ) (f : ℕ → Bool) (is : List ℕ) → T (all_below is) → (d : Delta) → Memᴰ d (map (delta_at d6 d7) (those f is)) → d.index < 8
index_below d6 d7 f [] t d m = absurd (Memᴰ.not-nil m)
index_below d6 d7 f (i ∷ is) t d m = go (f i) (index_below d6 d7 f is (both_right (ltb i 8) (all_below is) t) d) m
  where
    go : (b : Bool) → (Memᴰ d (map (delta_at d6 d7) (those f is)) → d.index < 8) → Memᴰ d (map (delta_at d6 d7) (cond b (i ∷ those f is) (those f is))) → d.index < 8
    go false ih m = ih m
    go true ih m = at (Memᴰ.cases_cons m)
      where
        at : (d ≡ delta_at d6 d7 i) ⊎ Memᴰ d (map (delta_at d6 d7) (those f is)) → d.index < 8
        at (inl q) = subst⁻¹ (λ (x : ℕ). x < 8) (ap (λ (x : Delta). x.index) q) (ltb→lt i 8 (both_left (ltb i 8) (all_below is) t))
        at (inr n) = ih n

pub object_eight : (x y colour own mask d5 d6 d7 : ℕ) (d : Delta) → Memᴰ d (object_with x y colour own mask d5 d6 d7).in_play → d.index < 8
unfolding object_with in_play_of set_in_both
object_eight x y colour own mask d5 d6 d7 d m = go (uses_scoreboard own d5) m
  where
    go : (t : Bool) → Memᴰ d (map (delta_at d6 d7) (cond t (set_in_both mask (field (bits 7 0) d5)) [])) → d.index < 8
    go true m = index_below d6 d7 (λ i. bit_set i mask && bit_set i (field (bits 7 0) d5)) eight tt d m
    go false m = absurd (Memᴰ.not-nil m)
