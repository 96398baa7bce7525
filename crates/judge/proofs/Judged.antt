-- Rows 3 to 5, then rows 6 to 9; and what a command that passes keeps to. Assumes nothing.
use mathlib.Core.Path.{◌≡◌, refl, sym, ap, ◌∙◌}
use mathlib.Core.Bool.{Bool, true, false, cond, ◌&&◌}
use Prim.Native.Nat.{ℕ, zero, suc, ◌+◌, ◌≤◌}
use native.Mathlib.Omega.{arith}
use mathlib.Core.List.{List, [], ◌∷◌, ◌++◌}
use lib.Dec.{T, ltb, leb}
use borrow.Author.Tests.{ltb-false, leb-true, eqb-true, eqb-false, ne_eqb, le-ltb, le-leb, lt-leb, not-false}
use Rattle.laws.specs.Rows.{Row, first_row}
use Rattle.laws.proofs.Tests.{both_left, both_right}
use Rattle.laws.proofs.Rows.{EachRow, by_rows, numbered, no_row, none_decides, second_decides, first_decides, first_off}
use Rattle.chips.specs.declared.Target.{Target}
use Rattle.command.specs.declared.State.{State}
use Rattle.command.specs.Kinds.{no_kind, length_field, length_allowed, length_of, total_of, own_dwords}
use Rattle.command.specs.Order.{Command, earlier_vfe, flag, is_set, state_of}
use Rattle.command.proofs.Order.{set_flag}
use Rattle.command.specs.Fields.{dword}
use Rattle.std.specs.Prelude.{Ok, Err}
use Rattle.chips.specs.Refusals.{number_of_refusal}
use Rattle.judge.specs.declared.Fault.{Fault}
use Rattle.judge.proofs.Verdicts.{never}
use Rattle.judge.specs.Refusals.{Verdict, no_fault, header_rows, own_rows, header_verdict, own_verdict, judge_of}

-- the number of a verdict, which for a command that passes is 0
abbrev pub number_of : Verdict → ℕ
number_of (Err f) = number_of_refusal f.refusal
number_of (Ok u) = 0

-- the rows have numbers, so that a table that decides on 0 has no row that holds
passed_lem : (rs : List (Row Verdict)) → T (numbered number_of rs) → number_of (first_row no_fault rs) ≡ 0 → first_row no_fault rs ≡ no_fault
passed_lem rs t e = none_decides number_of no_fault rs t e

module _ (k left : ℕ) (h : List ℕ) (st : State) where
  abbrev hs : List (Row Verdict)
  hs = header_rows k (dword h 0) left

  pub judge_own : header_verdict k (dword h 0) left ≡ no_fault → judge_of k left h st ≡ own_verdict k h st
  unfolding header_verdict own_verdict judge_of
  judge_own e = second_decides number_of no_fault hs (own_rows st.chip k h st) tt (ap number_of e)

  pub judge_header : (f : Fault) → header_verdict k (dword h 0) left ≡ Err f → judge_of k left h st ≡ Err f
  unfolding header_verdict judge_of
  judge_header f e = first_decides number_of no_fault hs (own_rows st.chip k h st) refl (λ z. never f (sym e ∙ passed_lem hs tt z)) ∙ e

  -- a command that passes has passed rows 3 to 5
  pub passed_header : judge_of k left h st ≡ no_fault → header_verdict k (dword h 0) left ≡ no_fault
  unfolding header_verdict judge_of
  passed_header e = passed_lem hs tt (first_off number_of no_fault hs (own_rows st.chip k h st) tt (ap number_of e) refl)

-- what rows 3 to 5 leave
module _ (k d left : ℕ) (e : header_verdict k d left ≡ no_fault) where
  pub passed_known : k ≡ no_kind → ⊥
  unfolding header_verdict
  passed_known = eqb-false k no_kind (no_row number_of no_fault (header_rows k d left) tt (ap number_of e) 0)

  pub passed_length : length_allowed k (length_field d) ≡ true
  unfolding header_verdict
  passed_length = not-false (length_allowed k (length_field d)) (no_row number_of no_fault (header_rows k d left) tt (ap number_of e) 1)

  pub passed_fits : total_of k d ≤ left
  unfolding header_verdict
  passed_fits = ltb-false left (total_of k d) (no_row number_of no_fault (header_rows k d left) tt (ap number_of e) 2)

-- rows 3 to 5 of the same first dword, where it fits
pub header_fits : (k d left left' : ℕ) → header_verdict k d left ≡ no_fault → total_of k d ≤ left' → header_verdict k d left' ≡ no_fault
unfolding header_verdict
header_fits k d left left' e p = simp (ne_eqb k no_kind (passed_known k d left e), passed_length k d left e, le-ltb left' (total_of k d) p)

-- an OBJECT that passes has an earlier VFE: the row of 8 that asks for one comes after the rows of 3 to 7
pub passed_after_vfe : (target : Target) (left : ℕ) (h : List ℕ) (cs : List Command) → judge_of 7 left h (state_of target cs) ≡ no_fault → earlier_vfe cs ≡ true
unfolding judge_of state_of
passed_after_vfe target left h cs e =
    let st = state_of target cs in
    sym (set_flag (earlier_vfe cs))
    ∙ not-false (is_set (flag (earlier_vfe cs))) (no_row number_of no_fault (header_rows 7 (dword h 0) left ++ own_rows st.chip 7 h st) tt (ap number_of e) 14)

-- a kind's own dwords are among its total
own_beyond : (k n : ℕ) → 9 ≤ k → own_dwords k ≤ cond (ltb k 3) 1 (n + 2)
unfolding own_dwords
own_beyond k n l = simp (le-ltb k 3 (omega arith), ne_eqb k 7 (λ e. omega arith), le-leb 3 k (omega arith), lt-leb k 8 (omega arith)) (omega arith)

own_total : (k n : ℕ) → length_allowed k n ≡ true → own_dwords k ≤ cond (ltb k 3) 1 (n + 2)
unfolding length_allowed own_dwords
own_total zero n e = omega arith
own_total (suc zero) n e = omega arith
own_total (suc (suc zero)) n e = omega arith
own_total (suc (suc (suc zero))) n e = let z = eqb-true n (length_of 3) e in omega arith
own_total (suc (suc (suc (suc zero)))) n e = let z = eqb-true n (length_of 4) e in omega arith
own_total (suc (suc (suc (suc (suc zero))))) n e = let z = eqb-true n (length_of 5) e in omega arith
own_total (suc (suc (suc (suc (suc (suc zero)))))) n e = let z = eqb-true n (length_of 6) e in omega arith
own_total (suc (suc (suc (suc (suc (suc (suc zero))))))) n e = let z = leb-true (length_of 7) n e in omega arith
own_total (suc (suc (suc (suc (suc (suc (suc (suc zero)))))))) n e = let z = eqb-true n (length_of 8) e in omega arith
own_total (suc (suc (suc (suc (suc (suc (suc (suc (suc k))))))))) n e = own_beyond (suc (suc (suc (suc (suc (suc (suc (suc (suc k))))))))) n (omega arith)

pub own_in_total : (k d left : ℕ) → header_verdict k d left ≡ no_fault → own_dwords k ≤ total_of k d
unfolding total_of
own_in_total k d left e = own_total k (length_field d) (passed_length k d left e)

pub own_fits_left : (k d left : ℕ) → header_verdict k d left ≡ no_fault → own_dwords k ≤ left
own_fits_left k d left e = let p = own_in_total k d left e in let q = passed_fits k d left e in omega arith

-- a total is at least 1
pub total_pos : (k d : ℕ) → 1 ≤ total_of k d
unfolding total_of
total_pos k d = go (ltb k 3)
  where
    go : (t : Bool) → 1 ≤ cond t 1 (length_field d + 2)
    go true = omega arith
    go false = omega arith

-- a fault's number is one of 3 to 9
abbrev pub in_range : Verdict → Bool
in_range (Err f) = leb 3 (number_of_refusal f.refusal) && leb (number_of_refusal f.refusal) 9
in_range (Ok u) = true

-- a fault's place is one of its command's first eight dwords
abbrev pub is_early : Verdict → Bool
is_early (Err f) = leb f.skip 7
is_early (Ok u) = true

-- row by row, one computed test
module _ (p : Verdict → Bool) where
  abbrev all_in : List (Row Verdict) → Bool
  all_in [] = true
  all_in (r ∷ rs) = p r.gives && all_in rs

  each : (rs : List (Row Verdict)) → T (all_in rs) → EachRow (λ (v : Verdict). T (p v)) rs
  each [] t = tt
  each (r ∷ rs) t = ((λ _. both_left (p r.gives) (all_in rs) t), each rs (both_right (p r.gives) (all_in rs) t))

pub fault_number : (k left : ℕ) (h : List ℕ) (st : State) → T (in_range (judge_of k left h st))
unfolding judge_of
fault_number k left h st =
    let rs = header_rows k (dword h 0) left ++ own_rows st.chip k h st in by_rows (λ (v : Verdict). T (in_range v)) no_fault rs tt (each in_range rs tt)

pub fault_early : (k left : ℕ) (h : List ℕ) (st : State) → T (is_early (judge_of k left h st))
unfolding judge_of
fault_early k left h st =
    let rs = header_rows k (dword h 0) left ++ own_rows st.chip k h st in by_rows (λ (v : Verdict). T (is_early v)) no_fault rs tt (each is_early rs tt)
