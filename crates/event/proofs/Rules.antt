-- Kinds that are not served: 3 and 6 are refused with 32. Assumes nothing.
use mathlib.Core.Path.{◌≡◌, refl, sym, subst}
use mathlib.Core.Bool.{Bool}
use mathlib.Core.List.{List}
use Prim.Native.Nat.{ℕ, ◌≤◌}
use native.Mathlib.Omega.{arith}
use lib.Dec.{eqb}
use borrow.Author.Tests.{eqb-true, eqb-false}
use Rattle.laws.proofs.Choices.{by_test}
use Rattle.event.specs.Decision.{Refused}
use Rattle.event.specs.declared.Head.{Head}
use Rattle.event.specs.declared.Setup.{Setup}
use Rattle.event.specs.declared.Gateway.{Gateway}
use Rattle.event.specs.Outcomes.{Unserved, ruled_of}

from_three : (k : ℕ) → (k ≡ 0 → ⊥) → (k ≡ 1 → ⊥) → (k ≡ 2 → ⊥) → 3 ≤ k
from_three k n0 n1 n2 = omega arith

is_six : (k : ℕ) → 3 ≤ k → k ≤ 6 → (k ≡ 3 → ⊥) → (k ≡ 4 → ⊥) → (k ≡ 5 → ⊥) → 6 ≡ k
is_six k least most n3 n4 n5 = omega arith

-- timestamps and MMIO are what is left of the seven kinds
pub left_over : (k : ℕ) (h : Head) (s : Setup) (g : Gateway) (waits : List Bool) → k ≤ 6 → Unserved k → Refused 32 ≡ ruled_of k h s g waits
unfolding ruled_of
left_over k h s g waits most n =
    by_test (eqb k 3)
    (λ q. subst (λ (m : ℕ). Refused 32 ≡ ruled_of m h s g waits) (sym (eqb-true k 3 q)) refl)
    (λ q. subst (λ (m : ℕ). Refused 32 ≡ ruled_of m h s g waits) (is_six k (from_three k n.no_open n.no_close n.no_forward) most (eqb-false k 3 q) n.no_barrier n.no_update) refl)

-- what holds of each kind that is served, and of any other, holds of every kind
pub by_kind : (P : ℕ → Type 0) → P 0 → P 1 → P 2 → P 4 → P 5 → (k : ℕ) → (Unserved k → P k) → P k
by_kind P p0 p1 p2 p4 p5 k other =
    by_test (eqb k 0) (λ q. subst P (sym (eqb-true k 0 q)) p0) λ n0.
    by_test (eqb k 1) (λ q. subst P (sym (eqb-true k 1 q)) p1) λ n1.
    by_test (eqb k 2) (λ q. subst P (sym (eqb-true k 2 q)) p2) λ n2.
    by_test (eqb k 4) (λ q. subst P (sym (eqb-true k 4 q)) p4) λ n4.
    by_test (eqb k 5) (λ q. subst P (sym (eqb-true k 5 q)) p5) λ n5.
    other (record { no_open = eqb-false k 0 n0; no_close = eqb-false k 1 n1; no_forward = eqb-false k 2 n2; no_barrier = eqb-false k 4 n4; no_update = eqb-false k 5 n5 })
