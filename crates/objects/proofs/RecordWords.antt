-- What the reading of a record's words shows. Assumes nothing.
use mathlib.Core.Path.{◌≡◌, refl, sym, ap, ap₂, ◌∙◌}
use mathlib.Core.Bool.{Bool, true, false, not, cond, ◌&&◌}
use mathlib.Core.List.{List}
use Prim.Native.Nat.{ℕ, ◌≤◌}
use native.Mathlib.Omega.{arith}
use lib.Dec.{eqb}
use lib.ListN.{length, get_or, get_or-eq_default}
use borrow.Author.Tests.{eq-eqb, ne_eqb, not-true, not-false}
use Rattle.records.specs.Records.{slot}
use Rattle.deltas.specs.declared.Position.{Position}
use Rattle.objects.specs.declared.Candidate.{Candidate}
use Rattle.deltas.specs.InPlay.{uses_scoreboard, type_of, joined_mask}
use Rattle.deltas.specs.Lowest.{lowest_at}
use Rattle.deltas.specs.Reach.{place_of, corner_of, rows_of, near_to, reached_from}
use Rattle.deltas.proofs.Reached as deltas
use Rattle.objects.specs.Recorded.{word_at, vfe_word_at, stalls_at, mask_at, position_at, candidate_of, delta_to, place_at, near_at, reached_at}

pub word_is : (d : List ℕ) (r f i w : ℕ) → i ≡ slot r f → w ≡ get_or d i 0 → w ≡ word_at d r f
unfolding word_at
word_is d r f i w e q = q ∙ ap (λ (k : ℕ). get_or d k 0) e

-- v is the VFE's record number, and i the index of its word f
module _ (d : List ℕ) (r f v i : ℕ) (ev : v ≡ word_at d r 14) (ei : i ≡ slot v f) where
  pub vfe_word_is : (w : ℕ) → w ≡ get_or d i 0 → w ≡ vfe_word_at d r f
  unfolding vfe_word_at
  vfe_word_is w q = word_is d v f i w ei q ∙ ap (λ (k : ℕ). word_at d k f) ev

  pub vfe_word_none : (L : ℕ) → L ≡ length d → L ≤ i → 0 ≡ vfe_word_at d r f
  vfe_word_none L el h = vfe_word_is 0 (sym (get_or-eq_default d 0 (let z : length d ≤ i = omega arith in z)))

-- the two tests of 24 on an object
module _ (d : List ℕ) (r own d5 : ℕ) (u : Bool) (eo : own ≡ word_at d r 4) (e5 : d5 ≡ vfe_word_at d r 8) (eu : u ≡ uses_scoreboard own d5) where
  unused : not u ≡ true → uses_scoreboard (word_at d r 4) (vfe_word_at d r 8) ≡ false
  unused q = sym (eu ∙ ap₂ uses_scoreboard eo e5) ∙ not-true u q

  used : not u ≡ false → uses_scoreboard (word_at d r 4) (vfe_word_at d r 8) ≡ true
  used q = sym (eu ∙ ap₂ uses_scoreboard eo e5) ∙ not-false u q

  pub stalls_off : not u ≡ true → false ≡ stalls_at d r
  unfolding stalls_at
  stalls_off q = simp (unused q)

  pub stalls_on : (t : Bool) → not u ≡ false → t ≡ eqb (type_of d5) 0 → t ≡ stalls_at d r
  unfolding stalls_at
  stalls_on t q e =
      e ∙ ap (λ (x : ℕ). eqb (type_of x) 0) e5
      ∙ sym (ap (λ (b : Bool). b && eqb (type_of (vfe_word_at d r 8)) 0) (used q))

  -- and of 25 on an object that a candidate may wait for
  module _ (c : Candidate) (colour : ℕ) (ec : colour ≡ word_at d r 9) (same : colour ≡ c.colour) where
    pub delta_unused : not u ≡ true → 8 ≡ delta_to d c r
    unfolding delta_to
    delta_unused q = simp (unused q)

    pub delta_there : (i : ℕ) (p : Position) → not u ≡ false → p ≡ position_at d r
        → i ≡ lowest_at c.position.x c.position.y c.deltas.mask c.deltas.d6 c.deltas.d7 p.x p.y → i ≡ delta_to d c r
    unfolding delta_to
    delta_there i p q ep e =
        e ∙ ap (λ (z : Position). lowest_at c.position.x c.position.y c.deltas.mask c.deltas.d6 c.deltas.d7 z.x z.y) ep
        ∙ simp (used q, eq-eqb (word_at d r 9) c.colour (sym ec ∙ same))

-- other colours
pub delta_other : (d : List ℕ) (r : ℕ) (c : Candidate) (colour : ℕ) → colour ≡ word_at d r 9 → (colour ≡ c.colour → ⊥) → 8 ≡ delta_to d c r
unfolding delta_to
delta_other d r c colour e n = go (uses_scoreboard (word_at d r 4) (vfe_word_at d r 8)) (ne_eqb (word_at d r 9) c.colour (λ z. n (e ∙ z)))
  where
    go : (t : Bool) → eqb (word_at d r 9) c.colour ≡ false
        → 8 ≡ cond (t && eqb (word_at d r 9) c.colour) (lowest_at c.position.x c.position.y c.deltas.mask c.deltas.d6 c.deltas.d7 (word_at d r 7) (word_at d r 8)) 8
    go true q = simp q
    go false q = refl

pub ruleset delta_laws = (delta_other, delta_unused, delta_there)

pub mask_is : (d : List ℕ) (r own mask d5 m : ℕ) → own ≡ word_at d r 4 → mask ≡ word_at d r 10 → d5 ≡ vfe_word_at d r 8 → m ≡ joined_mask own mask d5 → m ≡ mask_at d r
mask_is d r own mask d5 m eo em e5 e = e ∙ simp (eo, em, e5)

-- what 25 compares
pub candidate_is : (d : List ℕ) (r : ℕ) (p : Position) (colour mask d6 d7 corner : ℕ) → p ≡ position_at d r → colour ≡ word_at d r 9 → mask ≡ mask_at d r
    → d6 ≡ vfe_word_at d r 9 → d7 ≡ vfe_word_at d r 10 → corner ≡ corner_of p.x p.y
    → ◌≡◌ {A = Candidate} (record { position = p; colour = colour; deltas = record { mask = mask; d6 = d6; d7 = d7 }; corner = corner }) (candidate_of d r)
unfolding candidate_of
candidate_is d r p colour mask d6 d7 corner ep ec em e6 e7 en =
    simp (ec, em, e6, e7, en) (ap (λ (z : Position). record { position = z; colour = word_at d r 9; deltas = record { mask = mask_at d r; d6 = vfe_word_at d r 9; d7 = vfe_word_at d r 10 }; corner = corner_of z.x z.y }) ep)

-- the quick test, and what comes before it
pub place_is : (d : List ℕ) (r n : ℕ) (p : Position) → p ≡ position_at d r → n ≡ place_of p.x p.y → n ≡ place_at d r
place_is d r n p ep e = e ∙ ap (λ (z : Position). place_of z.x z.y) ep

pub near_is : (d : List ℕ) (r corner p : ℕ) (t : Bool) → p ≡ place_at d r → t ≡ near_to corner p → t ≡ near_at d corner r
unfolding near_at
near_is d r corner p t ep e = e ∙ ap (near_to corner) ep

pub reached_is : (d : List ℕ) (r corner p : ℕ) (rows : List ℕ) (t : Bool) → p ≡ place_at d r → t ≡ reached_from corner rows p → t ≡ reached_at d corner rows r
unfolding reached_at
reached_is d r corner p rows t ep e = e ∙ ap (reached_from corner rows) ep

-- LAW: what is not near fails it
pub far_unreached : (d : List ℕ) (corner : ℕ) (rows : List ℕ) (r : ℕ) → near_at d corner r ≡ false → reached_at d corner rows r ≡ false
unfolding near_at reached_at
far_unreached d corner rows r e = deltas.far_unreached corner (place_at d r) rows e

either : (t : Bool) (l : ℕ) → l ≡ 8 → 8 ≡ cond t l 8
either true l e = sym e
either false l e = refl

-- LAW: no delta of a candidate leads to an object that fails it
pub unreached : (d : List ℕ) (own r : ℕ) (c : Candidate) (rows : List ℕ) → c ≡ candidate_of d own → rows ≡ rows_of c.deltas.mask c.deltas.d6 c.deltas.d7
    → reached_at d c.corner rows r ≡ false → delta_to d c r ≡ 8
unfolding candidate_of delta_to reached_at
unreached d own r c rows ec er e =
    let p = c.position in
    let k : c.corner ≡ corner_of p.x p.y = ap (λ (z : Candidate). z.corner) ec ∙ sym (ap (λ (z : Candidate). corner_of z.position.x z.position.y) ec) in
    sym (either (uses_scoreboard (word_at d r 4) (vfe_word_at d r 8) && eqb (word_at d r 9) c.colour) _
    (deltas.unreached p.x p.y c.deltas.mask c.deltas.d6 c.deltas.d7 (word_at d r 7) (word_at d r 8)
    (sym (ap₂ (λ (n : ℕ) (rs : List ℕ). reached_from n rs (place_of (word_at d r 7) (word_at d r 8))) k er) ∙ e)))
