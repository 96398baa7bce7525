-- Rows 3 to 9 by the list of the commands before, and row 8 of a VFE in the papers' words: document 01, "Order", with document 02, One and
-- Two. Kinds, flushes and dwords are written out by their numbers here, so that the rows cannot lose one unseen. cs are the commands
-- before, the nearest first.
use Rattle.std.specs.Prelude.{ℕ, ◌≤◌, ◌≡◌, ◌⊎◌, Bool, true, false, cond, not, ◌&&◌, List, [], ◌∷◌, ◌++◌, eqb}
use Rattle.laws.specs.BitRanges.{bits, field, any_set}
use Rattle.laws.specs.Rows.{first_row}
use Rattle.chips.specs.declared.Chip.{Chip}
use Rattle.chips.specs.declared.Target.{Target}
use Rattle.masks.specs.MustBeZero.{marked_bits}
use Rattle.command.specs.declared.State.{State}
use Rattle.command.specs.Fields.{dword, curbe_size}
use Rattle.command.specs.Order.{Command, stands_since, earlier_vfe, count_loaded, state_in_force, state_of}
use Rattle.chips.specs.declared.Refusal.TheVariants.{Order, Capacity}
use Rattle.judge.specs.Refusals.{Verdict, refused, no_fault, Facts, header_rows, own_rows_by, judge_of, judge_by_full_flush}

-- does a command of kind 3, 4, 5, 7 or 8 stand since the last of the kinds in `flushes`, or since the start?
abbrev pub stands : List ℕ → List Command → Bool
stands flushes cs = stands_since (3 ∷ 4 ∷ 5 ∷ 7 ∷ 8 ∷ []) flushes cs

-- are dwords 1 to 4 those of the VFE in force?
abbrev pub same_below5 : List ℕ → List Command → Bool
same_below5 h cs =
    let v = state_in_force cs in
    earlier_vfe cs
    && eqb (dword h 1) (dword v 1)
    && eqb (dword h 2) (dword v 2)
    && eqb (dword h 3) (dword v 3)
    && eqb (dword h 4) (dword v 4)

-- Document 02, Two: where only the scoreboard differs, "if no command of kind 3, 4, 5, 7 or 8 stands since the last kind 1 or kind 6";
-- else document 01's "since the last MI_FLUSH or the start".
abbrev pub unflushed_in : List ℕ → List Command → Bool
unflushed_in h cs = cond (same_below5 h cs) (stands (1 ∷ 6 ∷ []) cs) (stands (1 ∷ []) cs)

-- what rows 8 and 9 ask, by the list
abbrev pub facts_in : Target → List ℕ → List Command → Facts
facts_in target h cs =
    record {
      vfe = earlier_vfe cs;
      unflushed = unflushed_in h cs;
      object = stands_since (7 ∷ []) (1 ∷ 6 ∷ []) cs;
      count = count_loaded cs;
      curbe = curbe_size (state_in_force cs);
      capacity = target.capacity;
    }

-- "the VFE state in force" after a list of commands: the own dwords of the nearest VFE, and none where there is no VFE
pub data InForce : List Command → List ℕ → Type 0 where
  none : InForce [] []
  here : {c : Command} {ys : List Command} → c.kind ≡ 3 → InForce (c ∷ ys) c.head
  further : {x : Command} {xs : List Command} {h : List ℕ} → (x.kind ≡ 3 → ⊥) → InForce xs h → InForce (x ∷ xs) h

-- a VFE with own dwords h: "only scoreboard enable, type, mask or deltas differ from the VFE state in force"
pub record ScoreboardOnly (h : List ℕ) (cs : List Command) : Type 0 where
  pub vfe : earlier_vfe cs ≡ true
  pub same : (i : ℕ) → 1 ≤ i → i ≤ 4 → dword h i ≡ dword (state_in_force cs) i

-- "A bit that differs in any other field"; or there is none in force to differ from
pub data Otherwise (h : List ℕ) (cs : List Command) : Type 0 where
  no_vfe : earlier_vfe cs ≡ false → Otherwise h cs
  differs : (i : ℕ) → 1 ≤ i → i ≤ 4 → (dword h i ≡ dword (state_in_force cs) i → ⊥) → Otherwise h cs

-- what a verdict past row 8 is: the command passes, or 9 turns it away
abbrev pub Past8 : Verdict → Type 0
Past8 v = (v ≡ no_fault) ⊎ (v ≡ refused Capacity 0)

pub record Flushes : Type 0 where
  -- the table, by the list: of any command, rows 3 to 9, of which the first that holds decides
  pub table : (target : Target) (k left : ℕ) (h : List ℕ) (cs : List Command)
      → judge_of k left h (state_of target cs)
      ≡ first_row no_fault (header_rows k (dword h 0) left ++ own_rows_by (facts_in target h cs) target.chip k h)
  -- 02: "such a VFE now passes 8 if no command of kind 3, 4, 5, 7 or 8 stands since the last kind 1 or kind 6"
  pub scoreboard_only : (h : List ℕ) (cs : List Command) → ScoreboardOnly h cs → unflushed_in h cs ≡ stands (1 ∷ 6 ∷ []) cs
  -- 02: "brings the old rule back", which is 01's: "since the last MI_FLUSH or the start"
  pub otherwise : (h : List ℕ) (cs : List Command) → Otherwise h cs → unflushed_in h cs ≡ stands (1 ∷ []) cs
  -- there is no third
  pub no_third : (h : List ℕ) (cs : List Command) → ScoreboardOnly h cs ⊎ Otherwise h cs
  -- what is compared with is the VFE state in force
  pub in_force : (cs : List Command) → InForce cs (state_in_force cs)
  -- What dwords 1 to 4 leave is enable, type, mask and deltas: of dword 5 row 6 judges just the bits that are none of these, on either
  -- chip; dwords 6 and 7 have the deltas alone.
  pub dword_five : (c : Chip) (d : ℕ) → any_set (marked_bits c 3 5) d ≡ not (eqb (field (bits 29 8) d) 0)
  -- Two changes no other verdict: what differs from the rule before is a VFE that 8 turned away and that is let past 8
  pub one_row : (k left : ℕ) (h : List ℕ) (st : State)
      → (judge_of k left h st ≡ judge_by_full_flush k left h st)
      ⊎ ((k ≡ 3) × (judge_by_full_flush k left h st ≡ refused Order 0) × Past8 (judge_of k left h st))
