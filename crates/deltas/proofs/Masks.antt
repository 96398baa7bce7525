-- The set bits of the code's joined mask are the deltas in play, and the machine's counts are theirs. Assumes nothing.
use Rattle.std.proofs.Common.{◌≡◌, ℕ, zero, suc, ◌+◌, ◌-◌, ◌/◌, ◌%◌, ◌^◌, ◌<◌, min, Bool, true, false, cond, ◌&&◌, T, eqb, ◌⊎◌, List, [], ◌∷◌, length, sym, refl, ap, ◌∙◌, ap₂, inl, inr, le_of_suc-le-suc, not-suc-le-zero, lt_of_le_of_lt, mod-lt, eq-or-lt_of_le, arith, lit<, eqb→eq}
use Rattle.std.specs.Int.{bit_at}
use Rattle.std.proofs.lemmas.Nat.Bits.{bit_at_and, bit_at-lt}
use Rattle.std.proofs.lemmas.Bool.Decides.{nat_tests}
use mathlib.Core.Path.{subst⁻¹}
use lib.Bits.{bit_and, and_le_r}
use lib.Count.{ones, ones_in, count_trailing_zeros}
use Rattle.laws.specs.BitRanges.{bits, field}
use Rattle.deltas.specs.InPlay.{bit_set, uses_scoreboard, those, eight, set_in_both, in_play_of, first_or, counted, joined_mask}
use Rattle.deltas.specs.declared.InPlay.{InPlay}
use Rattle.laws.proofs.Tests.{both_left, both_right}

-- the deltas whose bits are set in a mask
abbrev pub set_bits : ℕ → List ℕ
set_bits m = those (λ i. bit_set i m) eight

-- bit i, as std has it
pub set_at : (i n : ℕ) → bit_set i n ≡ eqb (bit_at n i) 1
unfolding field
set_at i n = let e : i - i + 1 ≡ 1 = omega arith in ap (λ (w : ℕ). eqb (n / 2 ^ i % 2 ^ w) 1) e

both : (a b : ℕ) → a < 2 → b < 2 → eqb a 1 && eqb b 1 ≡ eqb (min a b) 1
both a b p q = grind (arith, nat_tests)

-- bit i of the joined mask is set where it is set in both
both_set : (m n i : ℕ) → bit_set i m && bit_set i n ≡ bit_set i (bit_and m n)
both_set m n i =
    ap₂ ◌&&◌ (set_at i m) (set_at i n) ∙ both (bit_at m i) (bit_at n i) (bit_at-lt m i) (bit_at-lt n i) ∙ ap (λ (k : ℕ). eqb k 1) (sym (bit_at_and m n i))
    ∙ sym (set_at i (bit_and m n))

those_same : (f g : ℕ → Bool) → ((i : ℕ) → f i ≡ g i) → (is : List ℕ) → those f is ≡ those g is
those_same f g e [] = refl
those_same f g e (i ∷ is) = rw (e i, those_same f g e is)

set_joined : (m n : ℕ) → set_bits (bit_and m n) ≡ set_in_both m n
unfolding set_in_both
set_joined m n = sym (those_same (λ i. bit_set i m && bit_set i n) (λ i. bit_set i (bit_and m n)) (both_set m n) eight)

none_set : set_bits 0 ≡ []
unfolding field
none_set = refl

pub joined_set : (own mask vfe5 : ℕ) → set_bits (joined_mask own mask vfe5) ≡ in_play_of own mask vfe5
unfolding joined_mask in_play_of
joined_set own mask vfe5 = go (uses_scoreboard own vfe5)
  where
    go : (t : Bool) → set_bits (cond t (bit_and mask (field (bits 7 0) vfe5)) 0) ≡ cond t (set_in_both mask (field (bits 7 0) vfe5)) []
    go true = set_joined mask (field (bits 7 0) vfe5)
    go false = none_set

vfe_mask : (vfe5 : ℕ) → field (bits 7 0) vfe5 < 256
unfolding field
vfe_mask vfe5 = mod-lt (vfe5 / 2 ^ 0) (lit< tt)

joined_below : (own mask vfe5 : ℕ) → joined_mask own mask vfe5 < 256
unfolding joined_mask
joined_below own mask vfe5 = go (uses_scoreboard own vfe5)
  where
    go : (t : Bool) → cond t (bit_and mask (field (bits 7 0) vfe5)) 0 < 256
    go true = lt_of_le_of_lt (and_le_r mask (field (bits 7 0) vfe5)) (vfe_mask vfe5)
    go false = omega arith

pub joined_small : (m own mask vfe5 : ℕ) → m ≡ joined_mask own mask vfe5 → m < 256
joined_small m own mask vfe5 e = subst⁻¹ (λ (n : ℕ). n < 256) e (joined_below own mask vfe5)

-- a test at every number below n
abbrev pub all : (ℕ → Bool) → ℕ → Bool
all f zero = true
all f (suc n) = f n && all f n

pub below : (f : ℕ → Bool) (n : ℕ) → T (all f n) → (k : ℕ) → k < n → T (f k)
below f zero t k h = absurd (not-suc-le-zero h)
below f (suc n) t k h = go (below f n (both_right (f n) (all f n) t) k) (eq-or-lt_of_le (le_of_suc-le-suc h))
  where
    go : (k < n → T (f k)) → (k ≡ n) ⊎ (k < n) → T (f k)
    go ih (inl e) = subst⁻¹ (λ (m : ℕ). T (f m)) e (both_left (f n) (all f n) t)
    go ih (inr l) = ih l

-- the machine's counts of a mask of eight: one computed test for each
abbrev count_right : ℕ → Bool
count_right m = eqb (ones m) (length (set_bits m))

abbrev lowest_right : ℕ → Bool
lowest_right m = eqb (count_trailing_zeros 8 m) (first_or 8 (set_bits m))

count_tested : T (all count_right 256)
unfolding ones ones_in field
count_tested = tt

lowest_tested : T (all lowest_right 256)
unfolding count_trailing_zeros field
lowest_tested = tt

abbrev counts : ℕ → InPlay
counts m = record { count = ones m; lowest = count_trailing_zeros 8 m }

set_counted : (m : ℕ) → m < 256 → counts m ≡ counted (set_bits m)
set_counted m h =
    let p : ones m ≡ length (set_bits m) = eqb→eq (ones m) (length (set_bits m)) (below count_right 256 count_tested m h) in
    let q : count_trailing_zeros 8 m ≡ first_or 8 (set_bits m) = eqb→eq (count_trailing_zeros 8 m) (first_or 8 (set_bits m)) (below lowest_right 256 lowest_tested m h) in
    ap₂ (λ (a b : ℕ). record { count = a; lowest = b }) p q

-- what `deltas_in_play` shows
pub joined_counted : (m own mask vfe5 : ℕ) → m ≡ joined_mask own mask vfe5 → counts m ≡ counted (in_play_of own mask vfe5)
joined_counted m own mask vfe5 e =
    ap counts e ∙ set_counted (joined_mask own mask vfe5) (joined_below own mask vfe5) ∙ ap counted (joined_set own mask vfe5)

pub ruleset joined_laws = (joined_small, joined_counted)
