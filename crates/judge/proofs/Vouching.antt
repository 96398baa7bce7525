-- What a quick answer vouches for. Assumes nothing.
use mathlib.Core.Path.{◌≡◌, sym, ap, subst, ◌∙◌}
use mathlib.Core.Bool.{Bool, true, false, not, ◌||◌}
use Prim.Native.Nat.{ℕ, ◌/◌, ◌%◌, ◌<◌, ◌≤◌}
use native.Mathlib.Omega.{arith}
use mathlib.Core.List.{List}
use lib.Bits.{bit_and, bit_or, and_mask, and_le_r, or_add_and, and_le_l}
use lib.Dec.{ltb, eqb}
use borrow.Author.Tests.{ltb-true, lt-leb, eq-eqb, ne_eqb}
use Rattle.laws.specs.BitRanges.{bits, field, any_set}
use Rattle.laws.proofs.BitRanges.{taken, coded}
use Rattle.masks.specs.MustBeZero.{marks, marked_bits}
use Rattle.chips.specs.declared.Chip.{Chip}
use Rattle.chips.specs.declared.Chip.TheVariants.{Gen6, Gen7}
use Rattle.command.specs.declared.State.{State}
use Rattle.command.specs.Fields.{dword}
use Rattle.std.specs.Prelude.{Ok, Err}
use Rattle.std.specs.Result.{is_ok}
use Rattle.judge.specs.Refusals.{Verdict, no_fault, own_verdict, Vouches}
use Rattle.judge.proofs.Verdicts.{object_can, plain}

-- no vouches for nothing
pub no_vouches : (k : ℕ) (h : List ℕ) (st : State) → Vouches k h st false
no_vouches k h st = record { passes = λ e. absurd (differ e) }
  where
    number : Bool → ℕ
    number true = 1
    number false = 0

    differ : false ≡ true → ⊥
    differ e = let z = ap number e in omega arith

-- a verdict vouches for what it lets pass
pub passed_vouches : (k n : ℕ) (h : List ℕ) (st : State) (v : Verdict) (r : Bool) → k ≡ n → v ≡ own_verdict n h st → r ≡ is_ok v → Vouches k h st r
passed_vouches k n h st (Err f) r p e q = subst (Vouches k h st) (sym q) (no_vouches k h st)
passed_vouches k n h st (Ok u) r p e q = record { passes = λ y. ap (λ (x : ℕ). own_verdict x h st) p ∙ sym e }

pub as_vouches : (k n : ℕ) (h : List ℕ) (st : State) (r : Bool) → k ≡ n → Vouches n h st r → Vouches k h st r
as_vouches k n h st r p e = subst (λ (x : ℕ). Vouches x h st r) (sym p) e

-- a no-op always passes
pub no_op_vouches : (k : ℕ) (h : List ℕ) (st : State) → k ≡ 0 → Vouches k h st true
no_op_vouches k h st p =
    record { passes = λ y. sym (plain k (λ q. omega arith) (λ q. omega arith) (λ q. omega arith) (λ q. omega arith) (λ q. omega arith) (λ q. omega arith) h st) }

-- two numbers joined are at least each
pub or_left : (a b : ℕ) → a ≤ bit_or a b
or_left a b = let z = or_add_and a b in let y = and_le_r a b in omega arith

pub or_right : (a b : ℕ) → b ≤ bit_or a b
or_right a b = let z = or_add_and a b in let y = and_le_l a b in omega arith

-- below 64 an index has bits 7:6 clear
index_field : (x : ℕ) → bit_and x 255 < 64 → not (eqb (field (bits 7 6) x) 0) || false ≡ false
index_field x p =
    let e : bit_and x 255 ≡ x % 256 = and_mask x 8 in
    let f : bit_and (x / 64) 3 ≡ x / 64 % 4 = and_mask (x / 64) 2 in
    let z : bit_and (x / 64) 3 ≡ 0 = omega arith in
    simp (taken, eq-eqb (bit_and (x / 64) 3) 0 z)

index_clear : (k : Chip) (x : ℕ) → bit_and x 255 < 64 → any_set (marked_bits k 7 1) x ≡ false
unfolding marked_bits marks any_set
index_clear Gen6 x p = index_field x p
index_clear Gen7 x p = index_field x p

clear : (k : Chip) (i d a : ℕ) → not (eqb a 0) ≡ any_set (marked_bits k 7 i) d → a ≡ 0 → any_set (marked_bits k 7 i) d ≡ false
clear k i d a e z = sym e ∙ simp (eq-eqb a 0 z)

-- an OBJECT with no must-be-zero bit set in dwords 2 to 5, and with bits 7:0 of dword 1 below a count of at most 64
object_passes : (h : List ℕ) (st : State) (a b c d : ℕ)
    → not (eqb a 0) ≡ any_set (marked_bits st.chip 7 2) (dword h 2) → not (eqb b 0) ≡ any_set (marked_bits st.chip 7 3) (dword h 3)
    → not (eqb c 0) ≡ any_set (marked_bits st.chip 7 4) (dword h 4) → not (eqb d 0) ≡ any_set (marked_bits st.chip 7 5) (dword h 5)
    → bit_or (bit_or (bit_or a b) c) d ≡ 0 → (st.earlier_vfe ≡ 0 → ⊥) → st.count_loaded ≤ 64
    → bit_and (dword h 1) 255 < st.count_loaded → own_verdict 7 h st ≡ no_fault
object_passes h st a b c d ea eb ec ed z v n l =
    let x = dword h 1 in
    let p = or_left (bit_or (bit_or a b) c) d in
    let p2 = or_right (bit_or (bit_or a b) c) d in
    let q = or_left (bit_or a b) c in
    let q2 = or_right (bit_or a b) c in
    let r = or_left a b in
    let r2 = or_right a b in
    let e : bit_and x 255 ≡ x % 256 = and_mask x 8 in
    let f : bit_and x 63 ≡ x % 64 = and_mask x 6 in
    let i : bit_and x 63 < st.count_loaded = omega arith in
    rw object_can (simp (
      index_clear st.chip x (omega arith),
      clear st.chip 2 (dword h 2) a ea (omega arith),
      clear st.chip 3 (dword h 3) b eb (omega arith),
      clear st.chip 4 (dword h 4) c ec (omega arith),
      clear st.chip 5 (dword h 5) d ed (omega arith),
      ne_eqb st.earlier_vfe 0 v,
      coded,
      lt-leb st.count_loaded (bit_and x 63) i,
    ))

-- LAW: the code's quick answer for an OBJECT
pub object_vouches : (h : List ℕ) (st : State) (a b c d : ℕ)
    → not (eqb a 0) ≡ any_set (marked_bits st.chip 7 2) (dword h 2) → not (eqb b 0) ≡ any_set (marked_bits st.chip 7 3) (dword h 3)
    → not (eqb c 0) ≡ any_set (marked_bits st.chip 7 4) (dword h 4) → not (eqb d 0) ≡ any_set (marked_bits st.chip 7 5) (dword h 5)
    → bit_or (bit_or (bit_or a b) c) d ≡ 0 → (st.earlier_vfe ≡ 0 → ⊥) → st.count_loaded ≤ 64
    → Vouches 7 h st (ltb (bit_and (dword h 1) 255) st.count_loaded)
object_vouches h st a b c d ea eb ec ed z v n =
    record { passes = λ y. object_passes h st a b c d ea eb ec ed z v n (ltb-true (bit_and (dword h 1) 255) st.count_loaded y) }
