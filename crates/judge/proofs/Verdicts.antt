-- Rows 6 to 9 by kind: of the one list, the rows that can hold for a kind. Assumes nothing.
use mathlib.Core.Path.{◌≡◌, refl, sym, ap, ◌∙◌}
use native.Mathlib.Omega.{arith}
use Prim.Native.Nat.{ℕ, ◌+◌, ◌*◌, ◌/◌, ◌%◌, ◌^◌, ◌<◌, ◌≤◌}
use native.Mathlib.Nat.{lt_of_le_of_lt, mul-le-mul}
use mathlib.Core.Bool.{Bool, true, false, cond, not, ◌&&◌}
use mathlib.Core.List.{List, [], ◌∷◌}
use lib.Bits.{bit_and, and_le_r}
use lib.Dec.{ltb, leb, eqb, lit<}
use borrow.Author.Tests.{eq-eqb, ne_eqb}
use Rattle.laws.specs.Rows.{Row, row, first_row}
use Rattle.laws.specs.BitRanges.{any_set}
use Rattle.laws.proofs.BitRanges.{coded}
use Rattle.chips.specs.declared.Chip.{Chip}
use Rattle.chips.specs.declared.Chip.TheVariants.{Gen6, Gen7}
use Rattle.masks.specs.MustBeZero.{marks, marked_bits}
use Rattle.command.specs.declared.State.{State}
use Rattle.command.specs.Kinds.{no_kind, length_field, length_allowed, total_of}
use Rattle.command.specs.Order.{is_set, object_stands, curbe_in_force}
use Rattle.command.specs.Fields.{dword, urb_entries, entry_size, curbe_size, load_length, load_address, descriptor_index}
use Rattle.chips.specs.declared.Refusal.TheVariants.{UnknownCommand, LengthField, Truncated, Alignment, Order, Capacity}
use Rattle.std.specs.Prelude.{Ok, Err}
use Rattle.judge.specs.declared.Fault.{Fault}
use Rattle.judge.specs.Refusals.{Verdict, refused, no_fault, header_verdict, must_be_zero, without_flush, own_rows, own_verdict}

pub not_not : (t : Bool) → not (not t) ≡ t
not_not true = refl
not_not false = refl

-- each by the tables of both chips
module _ (h : List ℕ) (st : State) where
  abbrev own : Chip → ℕ → Verdict
  own c k = first_row no_fault (own_rows c k h st)

  abbrev vfe_rows : Chip → List (Row Verdict)
  vfe_rows c =
      must_be_zero c 3 h 1
      ∷ must_be_zero c 3 h 2
      ∷ must_be_zero c 3 h 3
      ∷ must_be_zero c 3 h 5
      ∷ row (refused Order 0) (without_flush h st)
      ∷ row (refused Capacity 0) (ltb st.capacity (urb_entries h * entry_size h + curbe_size h))
      ∷ []

  vfe_on : (c : Chip) → own c 3 ≡ first_row no_fault (vfe_rows c)
  unfolding marked_bits marks any_set
  vfe_on Gen6 = refl
  vfe_on Gen7 = refl

  pub vfe_can : own_verdict 3 h st ≡ first_row no_fault (vfe_rows st.chip)
  unfolding own_verdict
  vfe_can = vfe_on st.chip

  -- the rows as the code asks them
  abbrev vfe_asked : List (Row Verdict)
  vfe_asked =
      must_be_zero st.chip 3 h 1
      ∷ must_be_zero st.chip 3 h 2
      ∷ must_be_zero st.chip 3 h 3
      ∷ must_be_zero st.chip 3 h 5
      ∷ row (refused Order 0) (without_flush h st)
      ∷ row (refused Capacity 0) (ltb st.capacity (bit_and (dword h 2 / 2 ^ 8) 255 * bit_and (dword h 4 / 2 ^ 16) 65535 + bit_and (dword h 4) 65535))
      ∷ []

  pub vfe_is : (r : Verdict) → r ≡ first_row no_fault vfe_asked → r ≡ own_verdict 3 h st
  vfe_is r e = e ∙ sym (vfe_can ∙ simp coded)

  abbrev curbe_rows : Chip → List (Row Verdict)
  curbe_rows c =
      must_be_zero c 4 h 1
      ∷ must_be_zero c 4 h 2
      ∷ row (refused Alignment 2) (not (eqb (load_length h % 32) 0))
      ∷ row (refused Alignment 3) (not (eqb (load_address h % 32) 0))
      ∷ row (refused Order 0) (not (is_set st.earlier_vfe))
      ∷ row (refused Capacity 0) (ltb (32 * curbe_in_force st) (load_length h))
      ∷ []

  curbe_on : (c : Chip) → own c 4 ≡ first_row no_fault (curbe_rows c)
  unfolding marked_bits marks any_set
  curbe_on Gen6 = refl
  curbe_on Gen7 = refl

  pub curbe_can : own_verdict 4 h st ≡ first_row no_fault (curbe_rows st.chip)
  unfolding own_verdict
  curbe_can = curbe_on st.chip

  abbrev curbe_asked : List (Row Verdict)
  curbe_asked =
      must_be_zero st.chip 4 h 1
      ∷ must_be_zero st.chip 4 h 2
      ∷ row (refused Alignment 2) (not (eqb (bit_and (dword h 2) 131071 % 32) 0))
      ∷ row (refused Alignment 3) (not (eqb (dword h 3 % 32) 0))
      ∷ row (refused Order 0) (eqb st.earlier_vfe 0)
      ∷ row (refused Capacity 0) (ltb (32 * bit_and st.vfe_dword4 65535) (bit_and (dword h 2) 131071))
      ∷ []

  pub curbe_is : (r : Verdict) → r ≡ first_row no_fault curbe_asked → r ≡ own_verdict 4 h st
  curbe_is r e = e ∙ sym (curbe_can ∙ simp (coded, not_not))

  abbrev descriptor_rows : Chip → List (Row Verdict)
  descriptor_rows c =
      must_be_zero c 5 h 1
      ∷ must_be_zero c 5 h 2
      ∷ row (refused Alignment 2) (not (eqb (load_length h % 32) 0))
      ∷ row (refused Alignment 2) (ltb (load_length h) 32)
      ∷ row (refused Alignment 2) (ltb 2048 (load_length h))
      ∷ row (refused Alignment 3) (not (eqb (load_address h % 32) 0))
      ∷ row (refused Order 0) (not (is_set st.earlier_vfe))
      ∷ row (refused Order 0) (object_stands st)
      ∷ []

  descriptor_on : (c : Chip) → own c 5 ≡ first_row no_fault (descriptor_rows c)
  unfolding marked_bits marks any_set
  descriptor_on Gen6 = refl
  descriptor_on Gen7 = refl

  pub descriptor_can : own_verdict 5 h st ≡ first_row no_fault (descriptor_rows st.chip)
  unfolding own_verdict
  descriptor_can = descriptor_on st.chip

  abbrev descriptor_asked : List (Row Verdict)
  descriptor_asked =
      must_be_zero st.chip 5 h 1
      ∷ must_be_zero st.chip 5 h 2
      ∷ row (refused Alignment 2) (not (eqb (bit_and (dword h 2) 131071 % 32) 0))
      ∷ row (refused Alignment 2) (ltb (bit_and (dword h 2) 131071) 32)
      ∷ row (refused Alignment 2) (ltb 2048 (bit_and (dword h 2) 131071))
      ∷ row (refused Alignment 3) (not (eqb (dword h 3 % 32) 0))
      ∷ row (refused Order 0) (eqb st.earlier_vfe 0)
      ∷ row (refused Order 0) (object_stands st)
      ∷ []

  pub descriptor_is : (r : Verdict) → r ≡ first_row no_fault descriptor_asked → r ≡ own_verdict 5 h st
  descriptor_is r e = e ∙ sym (descriptor_can ∙ simp (coded, not_not))

  abbrev flush_rows : Chip → List (Row Verdict)
  flush_rows c = must_be_zero c 6 h 1 ∷ []

  flush_on : (c : Chip) → own c 6 ≡ first_row no_fault (flush_rows c)
  unfolding marked_bits marks any_set
  flush_on Gen6 = refl
  flush_on Gen7 = refl

  pub flush_can : own_verdict 6 h st ≡ first_row no_fault (flush_rows st.chip)
  unfolding own_verdict
  flush_can = flush_on st.chip

  pub flush_is : (r : Verdict) → r ≡ first_row no_fault (flush_rows st.chip) → r ≡ own_verdict 6 h st
  flush_is r e = e ∙ sym flush_can

  abbrev gateway_rows : Chip → List (Row Verdict)
  gateway_rows c = must_be_zero c 8 h 1 ∷ row (refused Order 0) (not (is_set st.earlier_vfe)) ∷ []

  gateway_on : (c : Chip) → own c 8 ≡ first_row no_fault (gateway_rows c)
  unfolding marked_bits marks any_set
  gateway_on Gen6 = refl
  gateway_on Gen7 = refl

  pub gateway_can : own_verdict 8 h st ≡ first_row no_fault (gateway_rows st.chip)
  unfolding own_verdict
  gateway_can = gateway_on st.chip

  pub gateway_is : (r : Verdict) → r ≡ first_row no_fault (gateway_rows st.chip) → r ≡ own_verdict 8 h st
  gateway_is r e = e ∙ sym gateway_can

  abbrev object_rows : Chip → List (Row Verdict)
  object_rows c =
      must_be_zero c 7 h 1
      ∷ must_be_zero c 7 h 2
      ∷ must_be_zero c 7 h 3
      ∷ must_be_zero c 7 h 4
      ∷ must_be_zero c 7 h 5
      ∷ row (refused Order 0) (not (is_set st.earlier_vfe))
      ∷ row (refused Order 0) (leb st.count_loaded (descriptor_index h))
      ∷ []

  object_on : (c : Chip) → own c 7 ≡ first_row no_fault (object_rows c)
  unfolding marked_bits marks any_set
  object_on Gen6 = refl
  object_on Gen7 = refl

  pub object_can : own_verdict 7 h st ≡ first_row no_fault (object_rows st.chip)
  unfolding own_verdict
  object_can = object_on st.chip

  pub object_is : (r : Verdict) → r ≡ first_row no_fault (object_rows st.chip) → r ≡ own_verdict 7 h st
  object_is r e = e ∙ sym object_can

-- where a VFE stands earlier and dwords 1 to 3 are its own, dword 4 decides
pub by_fourth : {vfe a b c x y z : ℕ} {t : Bool} → (vfe ≡ 0 → ⊥) → a ≡ x → b ≡ y → c ≡ z → t ≡ is_set vfe && eqb a x && eqb b y && eqb c z && t
by_fourth v e1 e2 e3 = simp (ne_eqb _ _ v, eq-eqb _ _ e1, eq-eqb _ _ e2, eq-eqb _ _ e3)

pub and_false : (t : Bool) → t && false ≡ false
and_false true = refl
and_false false = refl

-- no row from 6 on can hold for another kind
module _ (k : ℕ) (n3 : k ≡ 3 → ⊥) (n4 : k ≡ 4 → ⊥) (n5 : k ≡ 5 → ⊥) (n6 : k ≡ 6 → ⊥) (n7 : k ≡ 7 → ⊥) (n8 : k ≡ 8 → ⊥) where
  unmarked : (c : Chip) (i d : ℕ) → any_set (marked_bits c k i) d ≡ false
  unfolding marked_bits marks any_set
  unmarked c i d =
      simp (
        ne_eqb 3 k (λ e. n3 (sym e)),
        ne_eqb 4 k (λ e. n4 (sym e)),
        ne_eqb 5 k (λ e. n5 (sym e)),
        ne_eqb 6 k (λ e. n6 (sym e)),
        ne_eqb 7 k (λ e. n7 (sym e)),
        ne_eqb 8 k (λ e. n8 (sym e)),
        and_false,
      )

  pub plain : (h : List ℕ) (st : State) → no_fault ≡ own_verdict k h st
  unfolding own_verdict
  plain h st = simp (unmarked, ne_eqb k 3 n3, ne_eqb k 4 n4, ne_eqb k 5 n5, ne_eqb k 7 n7, ne_eqb k 8 n8)

pub as_kind : (k n : ℕ) (h : List ℕ) (st : State) (v : Verdict) → k ≡ n → v ≡ own_verdict n h st → v ≡ own_verdict k h st
as_kind k n h st v p e = e ∙ ap (λ (x : ℕ). own_verdict x h st) (sym p)

-- bounds of what a mask leaves
pub curbe_fits : (x : ℕ) → 32 * bit_and x 65535 < 2 ^ 32
curbe_fits x = let p = and_le_r x 65535 in omega arith

pub product_fits : (x y : ℕ) → bit_and x 255 * bit_and y 65535 < 2 ^ 32
product_fits x y = lt_of_le_of_lt (mul-le-mul (and_le_r x 255) (and_le_r y 65535)) (lit< tt)

pub rows_fit : (x y z : ℕ) → bit_and x 255 * bit_and y 65535 + bit_and z 65535 < 2 ^ 32
rows_fit x y z =
    let p : bit_and x 255 * bit_and y 65535 ≤ 255 * 65535 = mul-le-mul (and_le_r x 255) (and_le_r y 65535) in
    let q = and_le_r z 65535 in omega arith

pub never : (f : Fault) → ◌≡◌ {A = Verdict} (Err f) no_fault → ⊥
never f e = let z : ◌≡◌ {A = ℕ} 0 1 = cc in omega arith

-- A row of a table, as the code asks it: the row's own verdict v, where it holds and the code returns r, and where it does not.
module _ (t : Bool) (f : Fault) (rest r v : Verdict) (e : v ≡ cond t (Err f) no_fault) where
  pub at_row : (g : Fault) → v ≡ Err g → r ≡ Err g → r ≡ cond t (Err f) rest
  at_row g q p = by_cond_at t e
    where
      by_cond_at : (t : Bool) → v ≡ cond t (Err f) no_fault → r ≡ cond t (Err f) rest
      by_cond_at true e = p ∙ sym q ∙ e
      by_cond_at false e = absurd (never g (sym q ∙ e))

  pub past_row : (u : Unit) → v ≡ Ok u → r ≡ rest → r ≡ cond t (Err f) rest
  past_row u q p = go t e
    where
      go : (t : Bool) → v ≡ cond t (Err f) no_fault → r ≡ cond t (Err f) rest
      go true e = absurd (never f (sym e ∙ q))
      go false e = p

pub ruleset rows = (at_row, past_row)

-- rows 3 to 5, by what the code asks of the first dword
pub header_is : (k d left t : ℕ) (a : Bool) (r : Verdict) → a ≡ length_allowed k (length_field d) → t ≡ total_of k d
    → r ≡ first_row no_fault (row (refused UnknownCommand 0) (eqb k no_kind) ∷ row (refused LengthField 0) (not a) ∷ row (refused Truncated 0) (ltb left t) ∷ [])
    → r ≡ header_verdict k d left
unfolding header_verdict
header_is k d left t a r p q e = rw (← p, ← q) e
