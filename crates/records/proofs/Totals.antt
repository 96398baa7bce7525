-- The total of a command whose length field is allowed. Assumes nothing.
use mathlib.Core.Path.{◌≡◌, sym, ap, ◌∙◌}
use mathlib.Core.Bool.{true, ◌&&◌}
use Prim.Native.Nat.{ℕ, ◌+◌, ◌≤◌}
use native.Mathlib.Omega.{arith}
use lib.Bits.{bit_and}
use lib.Dec.{ltb, eqb}
use borrow.Author.Tests.{ltb-false, eqb-true, le-ltb, ne_eqb}
use Rattle.laws.proofs.BitRanges.{taken_low}
use Rattle.laws.proofs.Choices.{by_test, and_right, not_both}
use Rattle.command.specs.Kinds.{is_media, length_field, length_of, length_allowed, total_of}
use Rattle.command.proofs.Heads.{none_allowed}

pub object_total : (k d : ℕ) → k ≡ 7 → bit_and d 65535 + 2 ≡ total_of k d
unfolding total_of
object_total k d e = simp (e, taken_low)

-- a kind that is no OBJECT, from 3 on, has one length
fixed_total : (k d : ℕ) → 3 ≤ k → (k ≡ 7 → ⊥) → length_allowed k (length_field d) ≡ true → total_of k d ≡ length_of k + 2
unfolding length_allowed total_of
fixed_total k d l n e =
    let a : is_media k && eqb (length_field d) (length_of k) ≡ true = simp (le-ltb k 3 l, ne_eqb k 7 n) at e in
    let z = eqb-true (length_field d) (length_of k) (and_right (is_media k) (eqb (length_field d) (length_of k)) a) in
    simp (le-ltb k 3 l, z)

pub kind_total : (k n d : ℕ) → 3 ≤ n → (n ≡ 7 → ⊥) → k ≡ n → length_allowed k (length_field d) ≡ true → length_of n + 2 ≡ total_of k d
kind_total k n d l m e a =
    sym (fixed_total k d (omega arith) (λ q. m (omega arith)) a ∙ ap (λ (x : ℕ). length_of x + 2) e)

pub plain_total : (k d : ℕ) → (k ≡ 3 → ⊥) → (k ≡ 4 → ⊥) → (k ≡ 5 → ⊥) → (k ≡ 6 → ⊥) → (k ≡ 7 → ⊥) → (k ≡ 8 → ⊥) → length_allowed k (length_field d) ≡ true → 1 ≡ total_of k d
unfolding total_of
plain_total k d n3 n4 n5 n6 n7 n8 a =
    by_test (ltb k 3) (λ t. simp t)
    (λ t. absurd (not_both (length_allowed k (length_field d)) a (sym (none_allowed k n3 n4 n5 n6 n7 n8 (length_field d) (ltb-false k 3 t)))))
