-- Tests that are joined into one: numbers of which none may be other than 0, and the faults of an event in another order. Assumes nothing.
use mathlib.Core.Path.{◌≡◌, refl, sym, ap, ◌∙◌}
use mathlib.Core.Bool.{Bool, true, false, not, cond, ◌&&◌, ◌||◌}
use mathlib.Core.List.{[], ◌∷◌}
use Prim.Native.Nat.{ℕ}
use native.Mathlib.Omega.{arith}
use lib.Dec.{eqb, ltb, leb}
use lib.Bits.{bit_or, or_add_and, and_le_l, and_le_r}
use borrow.Author.Tests.{eq-eqb, ne_eqb, eqb-true, eqb-false}
use Rattle.laws.specs.AnyOf.{any_of}
use Rattle.laws.proofs.Choices.{by_test, or_false}
use Rattle.event.specs.declared.Head.{Head}
use Rattle.event.specs.Outcomes.{Unserved, counted_ack, ends, is_update, common_malformed, end_malformed, forward_malformed, open_malformed, ack_malformed, malformed}

abbrev nonzero : ℕ → Bool
nonzero n = not (eqb n 0)

-- a bitwise or is 0 where both are
or_nonzero : (a b : ℕ) → nonzero (bit_or a b) ≡ nonzero a || nonzero b
or_nonzero a b =
    by_test (eqb (bit_or a b) 0)
    (λ q. let z : bit_or a b ≡ 0 = eqb-true _ _ q in
    let ea : a ≡ 0 = omega (arith, or_add_and a b, and_le_r a b) in
    let eb : b ≡ 0 = omega (arith, or_add_and a b, and_le_l a b) in
    simp (q, eq-eqb a 0 ea, eq-eqb b 0 eb))
    (λ q. by_test (eqb a 0)
    (λ p. by_test (eqb b 0)
    (λ r. absurd (eqb-false (bit_or a b) 0 q (let ea : a ≡ 0 = eqb-true a 0 p in
    let eb : b ≡ 0 = eqb-true b 0 r in omega (arith, or_add_and a b))))
    (λ r. simp (q, p, r)))
    (λ p. simp (q, p)))

or_true : (a : Bool) → a || true ≡ true
or_true true = refl
or_true false = refl

turned : (a b t : Bool) → (a || b) || t ≡ t || (b || (a || false))
turned true b true = refl
turned true b false = simp or_true
turned false b true = simp or_true
turned false b false = refl

one : (t : Bool) → nonzero (cond t 1 0) ≡ t
one true = refl
one false = refl

-- so are a number, a second one and a test
pub three_nonzero : (a b : ℕ) (t : Bool) {n : ℕ} → n ≡ cond t 1 0 → nonzero (bit_or (bit_or a b) n) ≡ any_of (t ∷ nonzero b ∷ nonzero a ∷ [])
three_nonzero a b t e =
    ap (λ (x : ℕ). nonzero (bit_or (bit_or a b) x)) e
    ∙ or_nonzero (bit_or a b) (cond t 1 0)
    ∙ (λ j. or_nonzero a b j || one t j)
    ∙ turned (nonzero a) (nonzero b) t

regrouped : (x s t e f o a p u : Bool) → x || (s || (t || (e || (f || (o || (a || (p || (u || false)))))))) ≡ x || ((s || (t || (p || false))) || (e || (f || (o || (a || u)))))
regrouped true s t e f o a p u = refl
regrouped false true t e f o a p u = refl
regrouped false false true e f o a p u = refl
regrouped false false false e f o a true u = simp or_true
regrouped false false false e f o a false u = simp or_false

-- the faults, those that ask for no kind before the others
pub joined : (k : ℕ) (h : Head) (threads : ℕ)
    → malformed k h threads
    ≡ ltb 6 k || (common_malformed h threads || (end_malformed k h || (forward_malformed k h || (open_malformed k h || (ack_malformed k h || (is_update k && ltb 15 h.target))))))
unfolding malformed common_malformed
joined k h threads =
    regrouped (ltb 6 k) (leb threads h.sender) (nonzero h.stray) (end_malformed k h) (forward_malformed k h) (open_malformed k h) (ack_malformed k h) (nonzero h.padding)
    (is_update k && ltb 15 h.target)

-- ---- a kind that is not served, or none

and_true : (a : Bool) → a && true ≡ a
and_true true = refl
and_true false = refl

and_false : (a : Bool) → a && false ≡ false
and_false true = refl
and_false false = refl

other_faults : (k : ℕ) (h : Head) (threads : ℕ) → Unserved k → malformed k h threads ≡ ltb 6 k || (common_malformed h threads || ends h)
unfolding end_malformed forward_malformed open_malformed ack_malformed counted_ack
other_faults k h threads n =
    joined k h threads
    ∙ simp (ne_eqb k 0 n.no_open, ne_eqb k 1 n.no_close, ne_eqb k 2 n.no_forward, ne_eqb k 4 n.no_barrier, ne_eqb k 5 n.no_update, or_true, or_false, and_true, and_false)

kind_first : (c x e : Bool) → (c || x) || e ≡ x || (c || e)
kind_first true true e = refl
kind_first true false e = refl
kind_first false true e = refl
kind_first false false e = refl

pub other_joined : (h : Head) (threads : ℕ) → Unserved h.kind → (c : ℕ) {x e : ℕ} → nonzero c ≡ common_malformed h threads → x ≡ cond (ltb 6 h.kind) 1 0 → e ≡ cond (ends h) 1 0
    → nonzero (bit_or (bit_or c x) e) ≡ malformed h.kind h threads
other_joined h threads n c {x} {e} ec ex ee =
    or_nonzero (bit_or c x) e
    ∙ ap (λ (t : Bool). t || nonzero e) (or_nonzero c x)
    ∙ (λ j. (ec j || nonzero (ex j)) || nonzero (ee j))
    ∙ (λ j. (common_malformed h threads || one (ltb 6 h.kind) j) || one (ends h) j)
    ∙ kind_first (common_malformed h threads) (ltb 6 h.kind) (ends h)
    ∙ sym (other_faults h.kind h threads n)
