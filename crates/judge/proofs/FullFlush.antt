-- Rows 3 to 9 by the rule of a VFE's flush: no other command's verdict depends on it. Assumes nothing.
use mathlib.Core.Path.{◌≡◌, sym, ap, ◌∙◌}
use mathlib.Core.Bool.{Bool, false, not, ◌&&◌, ◌||◌}
use Prim.Native.Nat.{ℕ}
use mathlib.Core.List.{List, ◌++◌}
use lib.Dec.{eqb}
use borrow.Author.Tests.{eqb-true, eq-eqb}
use Rattle.laws.specs.Rows.{Row, first_row}
use Rattle.laws.proofs.Choices.{by_test}
use Rattle.laws.proofs.Rows.{no_row}
use Rattle.command.specs.declared.State.{State}
use Rattle.command.specs.Fields.{dword}
use Rattle.command.specs.Order.{media_stands, media_stands_either}
use Rattle.judge.specs.Refusals.{Verdict, no_fault, header_rows, own_rows_by, facts_by, scoreboard_only, without_flush, judge_by_full_flush, judge_of}
use Rattle.judge.proofs.Judged.{number_of}

module _ (k left : ℕ) (h : List ℕ) (st : State) where
  -- the rows, by whether a VFE stands without its flush
  abbrev rows : Bool → List (Row Verdict)
  rows t = header_rows k (dword h 0) left ++ own_rows_by (facts_by t st) st.chip k h

  -- of a VFE that passes, it does not
  flushed_passed : (t : Bool) → first_row no_fault (rows t) ≡ no_fault → k ≡ 3 → t ≡ false
  flushed_passed t e q =
      sym (ap (λ (x : Bool). x && t) (eq-eqb k 3 q)) ∙ no_row number_of no_fault (rows t) tt (ap number_of e) 15

  -- no other command's verdict depends on it
  pub other_kind : (t t' : Bool) → eqb k 3 ≡ false → first_row no_fault (rows t') ≡ first_row no_fault (rows t)
  other_kind t t' q = simp q

  passed_by : (t t' : Bool) → first_row no_fault (rows t) ≡ no_fault → (k ≡ 3 → t' ≡ false) → first_row no_fault (rows t') ≡ no_fault
  passed_by t t' e p =
      by_test (eqb k 3)
      (λ q. ap (λ (x : Bool). first_row no_fault (rows x)) (p (eqb-true k 3 q) ∙ sym (flushed_passed t e (eqb-true k 3 q))) ∙ e)
      (λ q. other_kind t t' q ∙ e)

  -- what passes has its flush, if it is a VFE
  pub passed_flushed : judge_of k left h st ≡ no_fault → k ≡ 3 → without_flush h st ≡ false
  unfolding judge_of
  passed_flushed e = flushed_passed (without_flush h st) e

  -- LAWS: what passed before passes still ..
  pub still_passes : judge_by_full_flush k left h st ≡ no_fault → judge_of k left h st ≡ no_fault
  unfolding judge_by_full_flush judge_of
  still_passes e =
      passed_by (media_stands st) (without_flush h st) e
      (λ q. ap (λ (x : Bool). x && (media_stands_either st || not (scoreboard_only h st))) (flushed_passed (media_stands st) e q))

  -- .. after a full flush, if it is a VFE ..
  pub before_flushed : judge_by_full_flush k left h st ≡ no_fault → k ≡ 3 → media_stands st ≡ false
  unfolding judge_by_full_flush
  before_flushed e = flushed_passed (media_stands st) e

  -- .. and what passes so now passed before
  pub passed_before : judge_of k left h st ≡ no_fault → (k ≡ 3 → media_stands st ≡ false) → judge_by_full_flush k left h st ≡ no_fault
  unfolding judge_by_full_flush judge_of
  passed_before e p = passed_by (without_flush h st) (media_stands st) e p
