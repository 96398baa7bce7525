-- Releases counted by barrier, and added to the counts at the end. Assumes nothing.
use mathlib.Core.Path.{◌≡◌, refl, sym, ap, ◌∙◌}
use mathlib.Core.Bool.{Bool, true, false, cond}
use mathlib.Core.List.{List, [], ◌∷◌}
use Prim.Native.Nat.{ℕ, zero, suc, ◌+◌, ◌*◌, ◌≤◌, ◌<◌}
use native.Mathlib.Numerals.{add-one}
use native.Mathlib.Omega.{arith}
use lib.Dec.{eqb}
use lib.ListN.{length, get_or, set, length-set}
use lib.Seq.{get_or-set_same, get_or-set_other, set-get_or}
use borrow.Author.Tests.{eqb-true, eqb-false}
use Rattle.laws.proofs.Choices.{by_test}
use Rattle.event.specs.declared.Setup.{Setup}
use Rattle.event.specs.Decision.{Decision, Refused, OpenOrClose, Forward, Wait, Release, Update}
use Rattle.event.specs.Groups.{group_of, over_members}
use Rattle.effects.specs.Effects.{one_more, notified, group_notified, counts_after, CountRoom}
use Rattle.effects.specs.Releases.{releases_after, with_releases, counts_in, ReleaseRoom}

-- ---- v more at a place

abbrev pub more : List ℕ → ℕ → ℕ → List ℕ
more cs k v = set cs k (get_or cs k 0 + v)

more_comm : (cs : List ℕ) (a u b v : ℕ) → more (more cs a u) b v ≡ more (more cs b v) a u
more_comm [] a u b v = refl
more_comm (x ∷ cs) zero u zero v = let e : x + u + v ≡ x + v + u = omega arith in ap (λ (y : ℕ). y ∷ cs) e
more_comm (x ∷ cs) zero u (suc b) v = refl
more_comm (x ∷ cs) (suc a) u zero v = refl
more_comm (x ∷ cs) (suc a) u (suc b) v = ap (λ (l : List ℕ). x ∷ l) (more_comm cs a u b v)

more_twice : (cs : List ℕ) (k u v : ℕ) → more (more cs k u) k v ≡ more cs k (u + v)
more_twice [] k u v = refl
more_twice (x ∷ cs) zero u v = let e : x + u + v ≡ x + (u + v) = omega arith in ap (λ (y : ℕ). y ∷ cs) e
more_twice (x ∷ cs) (suc k) u v = ap (λ (l : List ℕ). x ∷ l) (more_twice cs k u v)

more_grows : (cs : List ℕ) (a u k : ℕ) → get_or cs k 0 ≤ get_or (more cs a u) k 0
more_grows [] a u k = omega arith
more_grows (x ∷ cs) zero u zero = omega arith
more_grows (x ∷ cs) zero u (suc k) = omega arith
more_grows (x ∷ cs) (suc a) u zero = omega arith
more_grows (x ∷ cs) (suc a) u (suc k) = more_grows cs a u k

pub more_none : (cs : List ℕ) (k v : ℕ) → v ≡ 0 → more cs k v ≡ cs
more_none cs k v e = let z : get_or cs k 0 + v ≡ get_or cs k 0 = omega arith in ap (set cs k) z ∙ set-get_or cs k 0

if_more : (b : Bool) (cs : List ℕ) (a u k : ℕ) → cond b (one_more (more cs k u) a) (more cs k u) ≡ more (cond b (one_more cs a) cs) k u
if_more true cs a u k = more_comm cs k u a 1
if_more false cs a u k = refl

module _ (groups : List ℕ) where
  -- ---- what is there, with the releases of the first n threads

  module _ (releases cs : List ℕ) where
    pub releases_long : (n : ℕ) → length (with_releases n groups releases cs) ≡ length cs
    unfolding with_releases
    releases_long zero = refl
    releases_long (suc n) = length-set (with_releases n groups releases cs) (2 * n) _ ∙ releases_long n

    -- who has not had its turn has what it had
    pub releases_later : (n k : ℕ) → 2 * n ≤ k → get_or (with_releases n groups releases cs) k 0 ≡ get_or cs k 0
    unfolding with_releases
    releases_later zero k h = refl
    releases_later (suc n) k h = get_or-set_other (with_releases n groups releases cs) (2 * n) k _ 0 (λ e. omega arith) ∙ releases_later n k (omega arith)

    -- who has, has its barrier's releases besides
    pub releases_at : (n t : ℕ) → t < n → 2 * n ≤ length cs → get_or (with_releases n groups releases cs) (2 * t) 0 ≡ get_or cs (2 * t) 0 + get_or releases (group_of groups t) 0
    unfolding with_releases
    releases_at zero t h l = absurd (omega arith)
    releases_at (suc n) t h l =
        by_test (eqb t n)
        (λ q. let z : t ≡ n = eqb-true t n q in
        let w = with_releases n groups releases cs in
        rw z (get_or-set_same w (2 * n) (get_or w (2 * n) 0 + get_or releases (group_of groups n) 0) 0 (omega (arith, releases_long n)) ∙ ap (λ (x : ℕ). x + get_or releases (group_of groups n) 0) (releases_later n (2 * n) (omega arith))))
        (λ q. let z = eqb-false t n q in
        get_or-set_other (with_releases n groups releases cs) (2 * n) (2 * t) _ 0 (λ e. z (omega arith)) ∙ releases_at n t (omega (arith, z)) (omega arith))

    pub releases_grow : (n k : ℕ) → get_or cs k 0 ≤ get_or (with_releases n groups releases cs) k 0
    unfolding with_releases
    releases_grow zero k = omega arith
    releases_grow (suc n) k = let w = with_releases n groups releases cs in omega (arith, releases_grow n k, more_grows w (2 * n) (get_or releases (group_of groups n) 0) k)

  -- no release yet
  pub no_releases : (releases cs : List ℕ) → ((k : ℕ) → get_or releases k 0 ≡ 0) → (n : ℕ) → with_releases n groups releases cs ≡ cs
  unfolding with_releases
  no_releases releases cs z zero = refl
  no_releases releases cs z (suc n) = more_none (with_releases n groups releases cs) (2 * n) _ (z (group_of groups n)) ∙ no_releases releases cs z n

  -- ---- what is added before the releases may as well be added after them

  releases_more : (releases cs : List ℕ) (k v n : ℕ) → with_releases n groups releases (more cs k v) ≡ more (with_releases n groups releases cs) k v
  unfolding with_releases
  releases_more releases cs k v zero = refl
  releases_more releases cs k v (suc n) =
      ap (λ (l : List ℕ). more l (2 * n) (get_or releases (group_of groups n) 0)) (releases_more releases cs k v n)
      ∙ more_comm (with_releases n groups releases cs) k v (2 * n) (get_or releases (group_of groups n) 0)

  releases_if : (releases cs : List ℕ) (n k : ℕ) (b : Bool) → with_releases n groups releases (cond b (one_more cs k) cs) ≡ cond b (one_more (with_releases n groups releases cs) k) (with_releases n groups releases cs)
  releases_if releases cs n k true = releases_more releases cs k 1 n
  releases_if releases cs n k false = refl

  notified_more : (g : ℕ) (cs : List ℕ) (k v n : ℕ) → group_notified n groups g (more cs k v) ≡ more (group_notified n groups g cs) k v
  unfolding over_members
  notified_more g cs k v zero = refl
  notified_more g cs k v (suc n) =
      ap (λ (l : List ℕ). cond (eqb (group_of groups n) g) (one_more l (2 * n)) l) (notified_more g cs k v n)
      ∙ if_more (eqb (group_of groups n) g) (group_notified n groups g cs) (2 * n) v k

  -- a release
  released_one : (g : ℕ) (releases cs : List ℕ) → g < length releases → (n : ℕ) → with_releases n groups (one_more releases g) cs ≡ group_notified n groups g (with_releases n groups releases cs)
  unfolding over_members with_releases
  released_one g releases cs below zero = refl
  released_one g releases cs below (suc n) =
      let w = with_releases n groups releases cs in
      let y = group_notified n groups g w in
      let v = get_or releases (group_of groups n) 0 in
      ap (λ (l : List ℕ). more l (2 * n) (get_or (one_more releases g) (group_of groups n) 0)) (released_one g releases cs below n)
      ∙ by_test (eqb (group_of groups n) g)
      (λ q. let z : group_of groups n ≡ g = eqb-true (group_of groups n) g q in
      let e : get_or (one_more releases g) (group_of groups n) 0 ≡ v + 1 =
      ap (λ (x : ℕ). get_or (one_more releases g) x 0) z ∙ get_or-set_same releases g (get_or releases g 0 + 1) 0 below ∙ ap (λ (x : ℕ). get_or releases x 0 + 1) (sym z) in
      simp q (ap (more y (2 * n)) e ∙ sym (more_twice y (2 * n) v 1) ∙ ap (λ (l : List ℕ). one_more l (2 * n)) (sym (notified_more g w (2 * n) v n))))
      (λ q. simp q (ap (more y (2 * n)) (get_or-set_other releases g (group_of groups n) (get_or releases g 0 + 1) 0 (eqb-false (group_of groups n) g q)) ∙ sym (notified_more g w (2 * n) v n)))

  -- a release, and a forward's notification, before the releases
  group_before : (g : ℕ) (releases cs : List ℕ) (m n : ℕ) → with_releases n groups releases (group_notified m groups g cs) ≡ group_notified m groups g (with_releases n groups releases cs)
  unfolding over_members
  group_before g releases cs zero n = refl
  group_before g releases cs (suc m) n =
      releases_if releases (group_notified m groups g cs) n (2 * m) (eqb (group_of groups m) g)
      ∙ ap (λ (l : List ℕ). cond (eqb (group_of groups m) g) (one_more l (2 * m)) l) (group_before g releases cs m n)

  notified_before : (r m : ℕ) (releases cs : List ℕ) (n : ℕ) → with_releases n groups releases (notified r m cs) ≡ notified r m (with_releases n groups releases cs)
  unfolding notified
  notified_before r m releases cs n =
      by_test (eqb m 1) (λ q. simp q (releases_more releases cs (2 * r) 1 n)) (λ q. simp q (releases_if releases cs n (2 * r + 1) (eqb m 2)))

  -- a turn of the loop that adds them: v is what the thread gets
  module _ (releases cs : List ℕ) (t : ℕ) {c : List ℕ} {v : ℕ} (e : c ≡ with_releases t groups releases cs) (own : v ≡ get_or releases (group_of groups t) 0) where
    pub settled_sum : (n : ℕ) → t < n → 2 * n ≤ length cs → get_or c (2 * t) 0 + v ≡ get_or (with_releases n groups releases cs) (2 * t) 0
    settled_sum n h l =
        (λ j. get_or (e j) (2 * t) 0 + own j)
        ∙ ap (λ (x : ℕ). x + get_or releases (group_of groups t) 0) (releases_later releases cs t (2 * t) (omega arith))
        ∙ sym (releases_at releases cs n t h l)

    pub settled_turn : set c (2 * t) (get_or c (2 * t) 0 + v) ≡ with_releases (t + 1) groups releases cs
    unfolding with_releases
    settled_turn = (λ j. more (e j) (2 * t) (own j)) ∙ ap (λ (n : ℕ). with_releases n groups releases cs) (sym (add-one t))

-- ---- room for one more, by the counts of the rules

module _ (s : Setup) (releases cs : List ℕ) (room : CountRoom s (counts_in s releases cs)) where
  pub held_long : length cs ≡ 2 * s.threads
  held_long = sym (releases_long s.groups releases cs s.threads) ∙ room.two

  pub held_room : CountRoom s cs
  held_room = record { two = held_long; low = λ k. omega (arith, releases_grow s.groups releases cs s.threads k, room.low k) }

  pub release_room : length releases ≡ 16 → ReleaseRoom s releases
  release_room long =
      record { sixteen = long; low = λ t h. omega (arith, releases_at s.groups releases cs s.threads t h (omega (arith, held_long)), room.low (2 * t)) }

-- ---- by the decision

module _ (s : Setup) (releases cs : List ℕ) where
  -- what it adds to the counts held, it adds to those of the rules
  pub counted_before : (d : Decision) → counts_in s releases (counts_after d s cs) ≡ counts_after d s (counts_in s releases cs)
  unfolding counts_after
  counted_before (Refused n) = refl
  counted_before (OpenOrClose t g) = refl
  counted_before (Forward r a n m) = notified_before s.groups r m releases cs s.threads
  counted_before (Wait t) = refl
  counted_before (Release g) = group_before s.groups g releases cs s.threads s.threads
  counted_before (Update b v) = refl

  -- one that is no forward, where its barrier counts its releases
  pub counted_releases : (d : Decision) → ((r a n m : ℕ) → d ≡ Forward r a n m → ⊥) → ((g : ℕ) → d ≡ Release g → g < length releases)
      → counts_in s (releases_after d releases) cs ≡ counts_after d s (counts_in s releases cs)
  unfolding counts_after releases_after
  counted_releases (Refused n) f b = refl
  counted_releases (OpenOrClose t g) f b = refl
  counted_releases (Forward r a n m) f b = absurd (f r a n m refl)
  counted_releases (Wait t) f b = refl
  counted_releases (Release g) f b = released_one s.groups g releases cs (b g refl) s.threads
  counted_releases (Update b' v) f b = refl
