-- The lowest delta that leads to an object: the code's numbers against the objects. Assumes nothing.
use mathlib.Core.Path.{◌≡◌, refl, sym, ap, ◌∙◌}
use mathlib.Core.Bool.{Bool, true, false, cond, ◌&&◌}
use mathlib.Core.List.{List, [], ◌∷◌, map, Memᴰ}
use Prim.Native.Nat.{ℕ, zero, suc, ◌+◌, ◌<◌, ◌≤◌}
use native.Mathlib.Omega.{arith}
use borrow.Author.Tests.{lt-ltb, ltb-true}
use lib.Dec.{ltb}
use Rattle.deltas.specs.InPlay.{bit_set, those, joined_mask}
use Rattle.objects.specs.Objects.{Delta, Object, meets, delta_at, object_with}
use Rattle.laws.specs.Find.{first_from, find_first}
use Rattle.runs.specs.Run.{some_of, lowest_of}
use Rattle.deltas.specs.Lowest.{leads_at, lowest_at}
use Rattle.deltas.proofs.Masks.{joined_set}
use Rattle.runs.proofs.Waits.{some_one, one_some, lowest_le, lowest_one}

-- the deltas of a mask, searched one after the other
from_ge : (f : ℕ → Bool) (n i : ℕ) → i ≤ first_from n f i
unfolding first_from
from_ge f zero i = omega arith
from_ge f (suc n) i = go (f i) (from_ge f n (suc i))
  where
    go : (t : Bool) → suc i ≤ first_from n f (suc i) → i ≤ cond t i (first_from n f (suc i))
    go true ih = omega arith
    go false ih = omega arith

abbrev up_from : ℕ → ℕ → List ℕ
up_from i zero = []
up_from i (suc n) = i ∷ up_from (suc i) n

module _ (d6 d7 : ℕ) (f : ℕ → Bool) (t : Delta → Bool) where
  abbrev found : ℕ → Bool
  found i = f i && t (delta_at d6 d7 i)

  abbrev lowest : List ℕ → ℕ
  lowest is = lowest_of t (map (delta_at d6 d7) (those f is))

  searched : (n i : ℕ) → i + n ≡ 8 → lowest (up_from i n) ≡ first_from n found i
  unfolding first_from
  searched zero i e = let z : 8 ≡ i = omega arith in z
  searched (suc n) i e = go (f i) (t (delta_at d6 d7 i)) refl (searched n (suc i) (omega arith)) (from_ge found n (suc i))
    where
      go : (p q : Bool) → t (delta_at d6 d7 i) ≡ q → lowest (up_from (suc i) n) ≡ first_from n found (suc i) → suc i ≤ first_from n found (suc i)
          → lowest_of t (map (delta_at d6 d7) (cond p (i ∷ those f (up_from (suc i) n)) (those f (up_from (suc i) n)))) ≡ cond (p && q) i (first_from n found (suc i))
      go true true r ih l = simp r (omega arith)
      go true false r ih l = simp r ih
      go false q r ih l = ih

-- the code finds the lowest delta of an object at j
pub lowest_at_lem : (x y colour own mask d5 d6 d7 : ℕ) (j : Object)
    → lowest_at x y (joined_mask own mask d5) d6 d7 j.x j.y ≡ lowest_of (meets (object_with x y colour own mask d5 d6 d7) j) (object_with x y colour own mask d5 d6 d7).in_play
unfolding lowest_at leads_at find_first object_with
lowest_at_lem x y colour own mask d5 d6 d7 j =
    let o = object_with x y colour own mask d5 d6 d7 in
    sym (searched d6 d7 (λ i. bit_set i (joined_mask own mask d5)) (meets o j) 8 0 refl)
    ∙ ap (λ (is : List ℕ). lowest_of (meets o j) (map (delta_at d6 d7) is)) (joined_set own mask d5)

-- a delta below 8 is found where one leads there, and only there
pub some_below : (f : Delta → Bool) (ds : List Delta) → ((d : Delta) → Memᴰ d ds → d.index < 8) → some_of f ds ≡ ltb (lowest_of f ds) 8
some_below f ds small = go (some_of f ds) refl (ltb (lowest_of f ds) 8) refl
  where
    go : (a : Bool) → some_of f ds ≡ a → (b : Bool) → ltb (lowest_of f ds) 8 ≡ b → some_of f ds ≡ ltb (lowest_of f ds) 8
    go true p b q =
        let o = some_one f ds p in
        p ∙ sym (lt-ltb (lowest_of f ds) 8 (omega (arith, lowest_le f ds o.one o.among o.holds, small o.one o.among)))
    go false p true q =
        let o = lowest_one f ds (ltb-true (lowest_of f ds) 8 q) in
        one_some f ds o.found.one o.found.among o.found.holds ∙ sym q
    go false p false q = p ∙ sym q
