-- The rows by the list of the commands before, and row 8 of a VFE, say what the papers say. Assumes nothing.
use mathlib.Core.Path.{◌≡◌, refl, sym, ap, ap₂, subst, ◌∙◌}
use mathlib.Core.Logic.{◌⊎◌, inl, inr, ⊎_elim}
use mathlib.Core.Bool.{Bool, true, false, cond, not, ◌&&◌, ◌||◌}
use Prim.Native.Nat.{ℕ, zero, suc, ◌+◌, ◌*◌, ◌≤◌}
use native.Mathlib.Omega.{arith}
use mathlib.Core.List.{List, [], ◌∷◌, ◌++◌}
use lib.Dec.{ltb, eqb}
use borrow.Author.Tests.{eqb-true, eqb-false, eq-eqb, ne_eqb}
use Rattle.laws.specs.Rows.{Row, first_row}
use Rattle.laws.specs.BitRanges.{bits, field, any_set}
use Rattle.laws.proofs.Choices.{by_test, or_false, not_both}
use Rattle.laws.proofs.Rows.{same_or_rest}
use Rattle.chips.specs.declared.Chip.{Chip}
use Rattle.chips.specs.declared.Chip.TheVariants.{Gen6, Gen7}
use Rattle.chips.specs.declared.Target.{Target}
use Rattle.masks.specs.MustBeZero.{marks, marked_bits}
use Rattle.command.specs.declared.State.{State}
use Rattle.command.specs.Fields.{dword, urb_entries, entry_size, curbe_size}
use Rattle.command.specs.Order.{Command, earlier_vfe, media_since_flush, media_since_either, state_in_force, media_stands, media_stands_either, state_of}
use Rattle.command.proofs.Order.{set_flag, fewer_stand, state_tells, state_chip, state_capacity}
use Rattle.chips.specs.declared.Refusal.TheVariants.{Order, Capacity}
use Rattle.judge.specs.Refusals.{Verdict, refused, no_fault, header_rows, must_be_zero, Facts, facts_by, own_rows_by, scoreboard_only, without_flush, judge_of, judge_by_full_flush}
use Rattle.judge.specs.Flushes.{stands, same_below5, facts_in, InForce, none, here, further, ScoreboardOnly, Otherwise, no_vfe, differs, Past8, Flushes}
use Rattle.judge.proofs.Verdicts.{and_false}
use Rattle.judge.proofs.FullFlush.{other_kind}

-- a full flush serves as either
mixed : (full either only : Bool) → (full ≡ false → either ≡ false) → full && (either || not only) ≡ cond only either full
mixed true true true p = refl
mixed true true false p = refl
mixed true false true p = refl
mixed true false false p = refl
mixed false true only p = absurd (not_both true refl (p refl))
mixed false false true p = refl
mixed false false false p = refl

module _ (target : Target) (h : List ℕ) (cs : List Command) where
  abbrev st : State
  st = state_of target cs

  same_only : scoreboard_only h st ≡ same_below5 h cs
  unfolding state_of
  same_only = simp set_flag

  unflushed_is : without_flush h st ≡ cond (same_below5 h cs) (stands (1 ∷ 6 ∷ []) cs) (stands (1 ∷ []) cs)
  unflushed_is =
      simp ((state_tells target cs).media, (state_tells target cs).either, same_only)
      (mixed (media_since_flush cs) (media_since_either cs) (same_below5 h cs) (fewer_stand (3 ∷ 4 ∷ 5 ∷ 7 ∷ 8 ∷ []) (1 ∷ []) (6 ∷ []) cs))

  facts_are : facts_by (without_flush h st) st ≡ facts_in target h cs
  facts_are =
      let t = state_tells target cs in
      ap (λ (x : Bool). facts_by x st) unflushed_is ∙ simp (t.vfe, t.object, t.count, t.curbe, state_capacity target cs)

  table_is : (k left : ℕ) → judge_of k left h st ≡ first_row no_fault (header_rows k (dword h 0) left ++ own_rows_by (facts_in target h cs) target.chip k h)
  unfolding judge_of
  table_is k left = ap₂ (λ (f : Facts) (c : Chip). first_row no_fault (header_rows k (dword h 0) left ++ own_rows_by f c k h)) facts_are (state_chip target cs)

same_only_true : (h : List ℕ) (cs : List Command) → ScoreboardOnly h cs → same_below5 h cs ≡ true
same_only_true h cs s =
    simp (
      s.vfe,
      eq-eqb _ _ (s.same 1 (omega arith) (omega arith)),
      eq-eqb _ _ (s.same 2 (omega arith) (omega arith)),
      eq-eqb _ _ (s.same 3 (omega arith) (omega arith)),
      eq-eqb _ _ (s.same 4 (omega arith) (omega arith)),
    )

same_only_false : (h : List ℕ) (cs : List Command) → Otherwise h cs → same_below5 h cs ≡ false
same_only_false h cs (no_vfe e) = simp e
same_only_false h cs (differs zero p q n) = absurd (omega arith)
same_only_false h cs (differs (suc zero) p q n) = simp (ne_eqb _ _ n, and_false)
same_only_false h cs (differs (suc (suc zero)) p q n) = simp (ne_eqb _ _ n, and_false)
same_only_false h cs (differs (suc (suc (suc zero))) p q n) = simp (ne_eqb _ _ n, and_false)
same_only_false h cs (differs (suc (suc (suc (suc zero)))) p q n) = simp (ne_eqb _ _ n, and_false)
same_only_false h cs (differs (suc (suc (suc (suc (suc i))))) p q n) = absurd (omega arith)

four : (h s : List ℕ) → dword h 1 ≡ dword s 1 → dword h 2 ≡ dword s 2 → dword h 3 ≡ dword s 3 → dword h 4 ≡ dword s 4
    → (i : ℕ) → 1 ≤ i → i ≤ 4 → dword h i ≡ dword s i
four h s a b c d zero p q = absurd (omega arith)
four h s a b c d (suc zero) p q = a
four h s a b c d (suc (suc zero)) p q = b
four h s a b c d (suc (suc (suc zero))) p q = c
four h s a b c d (suc (suc (suc (suc zero)))) p q = d
four h s a b c d (suc (suc (suc (suc (suc i))))) p q = absurd (omega arith)

-- the dwords of a VFE and of the one in force, each compared
compared : (h : List ℕ) (cs : List Command) → earlier_vfe cs ≡ true → ScoreboardOnly h cs ⊎ Otherwise h cs
compared h cs v =
    let s = state_in_force cs in
    by_test (eqb (dword h 1) (dword s 1))
    (λ a. by_test (eqb (dword h 2) (dword s 2))
    (λ b. by_test (eqb (dword h 3) (dword s 3))
    (λ c. by_test (eqb (dword h 4) (dword s 4))
    (λ d. inl (record { vfe = v; same = four h s (eqb-true _ _ a) (eqb-true _ _ b) (eqb-true _ _ c) (eqb-true _ _ d) }))
    (λ n. inr (differs 4 (omega arith) (omega arith) (eqb-false _ _ n))))
    (λ n. inr (differs 3 (omega arith) (omega arith) (eqb-false _ _ n))))
    (λ n. inr (differs 2 (omega arith) (omega arith) (eqb-false _ _ n))))
    (λ n. inr (differs 1 (omega arith) (omega arith) (eqb-false _ _ n)))

in_force_lem : (cs : List Command) → InForce cs (state_in_force cs)
unfolding state_in_force
in_force_lem [] = none
in_force_lem (c ∷ cs) = go (eqb c.kind 3) refl (in_force_lem cs)
  where
    go : (t : Bool) → eqb c.kind 3 ≡ t → InForce cs (state_in_force cs) → InForce (c ∷ cs) (cond t c.head (state_in_force cs))
    go true q ih = here (eqb-true c.kind 3 q)
    go false q ih = further (eqb-false c.kind 3 q) ih

-- on either chip the marked bits of dword 5 are 29:8
marked_five : (c : Chip) (d : ℕ) → any_set (marked_bits c 3 5) d ≡ not (eqb (field (bits 29 8) d) 0)
unfolding marked_bits marks any_set
marked_five Gen6 d = or_false _
marked_five Gen7 d = or_false _

-- a VFE: the rows before 8, then 8 by a test, then 9
module _ (left : ℕ) (h : List ℕ) (st : State) where
  abbrev early : List (Row Verdict)
  early =
      let c = st.chip in
      header_rows 3 (dword h 0) left
      ++ (must_be_zero c 3 h 1 ∷ must_be_zero c 3 h 2 ∷ must_be_zero c 3 h 3 ∷ must_be_zero c 3 h 4 ∷ must_be_zero c 3 h 5 ∷ must_be_zero c 3 h 6
      ∷ must_be_zero c 3 h 7 ∷ [])

  abbrev nine : Bool
  nine = ltb st.capacity (urb_entries h * entry_size h + curbe_size h)

  past : (t : Bool) → Past8 (cond t (refused Capacity 0) no_fault)
  past true = inr refl
  past false = inl refl

  -- the rule now turns away nobody whom the rule before does not
  by_both : (before now : Bool) → (before ≡ false → now ≡ false)
      → let was = first_row (cond before (refused Order 0) (cond nine (refused Capacity 0) no_fault)) early in
      let is = first_row (cond now (refused Order 0) (cond nine (refused Capacity 0) no_fault)) early in (is ≡ was) ⊎ ((was ≡ refused Order 0) × Past8 is)
  by_both true true p = inl refl
  by_both true false p =
      ⊎_elim (λ e. inl e) (λ q. inr (q.0, subst Past8 (sym q.1) (past nine))) (same_or_rest early (refused Order 0) (cond nine (refused Capacity 0) no_fault))
  by_both false true p = absurd (not_both true refl (p refl))
  by_both false false p = inl refl

  -- what Two changes, in a command of kind k
  abbrev OneRow : ℕ → Type 0
  OneRow k = (judge_of k left h st ≡ judge_by_full_flush k left h st) ⊎ ((k ≡ 3) × (judge_by_full_flush k left h st ≡ refused Order 0) × Past8 (judge_of k left h st))

  of_vfe : OneRow 3
  unfolding judge_of judge_by_full_flush
  of_vfe =
      ⊎_elim (λ e. inl e) (λ q. inr (refl, q.0, q.1))
      (by_both (media_stands st) (without_flush h st) (λ e. ap (λ (x : Bool). x && (media_stands_either st || not (scoreboard_only h st))) e))

  of_other : (k : ℕ) → eqb k 3 ≡ false → OneRow k
  unfolding judge_of judge_by_full_flush
  of_other k q = inl (other_kind k left h st (media_stands st) (without_flush h st) q)

  one_row_lem : (k : ℕ) → OneRow k
  one_row_lem k = by_test (eqb k 3) (λ q. subst OneRow (sym (eqb-true k 3 q)) of_vfe) (of_other k)

-- LAW
pub flushes : Flushes
flushes =
    record {
      table = λ target k left h cs. table_is target h cs k left;
      scoreboard_only = λ h cs s. ap (λ (t : Bool). cond t (stands (1 ∷ 6 ∷ []) cs) (stands (1 ∷ []) cs)) (same_only_true h cs s);
      otherwise = λ h cs o. ap (λ (t : Bool). cond t (stands (1 ∷ 6 ∷ []) cs) (stands (1 ∷ []) cs)) (same_only_false h cs o);
      no_third = λ h cs. by_test (earlier_vfe cs) (compared h cs) (λ e. inr (no_vfe e));
      in_force = in_force_lem;
      dword_five = marked_five;
      one_row = λ k left h st. one_row_lem left h st k;
    }
