-- Why a command is turned away: rows 3 to 9 of document 01's table. "The first faulty command decides; inside it, table order. Place is the
-- command's first dword, except as shown": here a place counts from that dword.
use Rattle.std.specs.Prelude.{ℕ, ◌+◌, ◌*◌, ◌%◌, ◌≡◌, Bool, true, not, ◌&&◌, ◌||◌, List, [], ◌∷◌, ◌++◌, ltb, leb, eqb, Result, Ok, Err}
use Rattle.laws.specs.Rows.{Row, row, first_row}
use Rattle.laws.specs.BitRanges.{any_set}
use Rattle.chips.specs.declared.Chip.{Chip}
use Rattle.command.specs.declared.State.{State}
use Rattle.chips.specs.declared.Refusal.{Refusal}
use Rattle.chips.specs.declared.Refusal.TheVariants.{UnknownCommand, LengthField, Truncated, MustBeZero, Alignment, Order, Capacity}
use Rattle.judge.specs.declared.Fault.{Fault}
use Rattle.command.specs.Kinds.{no_kind, length_field, length_allowed, total_of}
use Rattle.command.specs.Order.{is_set, media_stands, media_stands_either, object_stands, curbe_in_force}
use Rattle.masks.specs.MustBeZero.{marked_bits}
use Rattle.command.specs.Fields.{dword, urb_entries, entry_size, curbe_size, load_length, load_address, descriptor_index}

-- whether a command passes, or why it is refused, at a dword counted from its first
abbrev pub Verdict : Type 0
Verdict = Result Unit Fault

abbrev pub refused : Refusal → ℕ → Verdict
refused r skip = Err (record { refusal = r; skip = skip })

abbrev pub no_fault : Verdict
no_fault = Ok tt

-- a load: kinds 4 and 5
abbrev is_load : ℕ → Bool
is_load k = eqb k 4 || eqb k 5

-- Rows 3 to 5 read the first dword d, of a command of kind k, and how many dwords the slice still has.
abbrev pub header_rows : ℕ → ℕ → ℕ → List (Row Verdict)
header_rows k d left =
    -- 3: "header's type and opcodes not in the table"
    row (refused UnknownCommand 0) (eqb k no_kind)
    -- 4: "length field not allowed"
    ∷ row (refused LengthField 0) (not (length_allowed k (length_field d)))
    -- 5: "command runs past the slice"
    ∷ row (refused Truncated 0) (ltb left (total_of k d))
    ∷ []

-- 6: "a must-be-zero bit is set (place: first such dword)"; here dword i of the own dwords h, by the chip's masks
abbrev pub must_be_zero : Chip → ℕ → List ℕ → ℕ → Row Verdict
must_be_zero c k h i = row (refused MustBeZero i) (any_set (marked_bits c k i) (dword h i))

-- Document 02, Two: "only scoreboard enable, type, mask or deltas differ from the VFE state in force". These stand in dwords 5 to 7 of a
-- VFE; "A bit that differs in any other field brings the old rule back", so dwords 1 to 4 are those of the VFE in force, to the last bit.
abbrev pub scoreboard_only : List ℕ → State → Bool
scoreboard_only h st =
    is_set st.earlier_vfe
    && eqb (dword h 1) st.vfe_dword1
    && eqb (dword h 2) st.vfe_dword2
    && eqb (dword h 3) st.vfe_dword3
    && eqb (dword h 4) st.vfe_dword4

-- Does a VFE with own dwords h stand without the flush that it needs? Document 01: "A VFE needs that no command of kind 3, 4, 5 or 7 stands
-- since the last MI_FLUSH or the start"; kind 8 too, "counting with it before a VFE (H)". Document 02, Two, where only the scoreboard
-- differs: "a media state flush is enough. On either chip such a VFE now passes 8 if no command of kind 3, 4, 5, 7 or 8 stands since the
-- last kind 1 or kind 6."
abbrev pub without_flush : List ℕ → State → Bool
without_flush h st = media_stands st && (media_stands_either st || not (scoreboard_only h st))

-- What rows 8 and 9 ask beside the command's own dwords: of the commands before it, and the capacity.
pub record Facts : Type 0 where
  -- a VFE stands earlier
  pub vfe : Bool
  -- a VFE, if this is one, stands without its flush
  pub unflushed : Bool
  -- an OBJECT stands since the last kind 1 or 6
  pub object : Bool
  -- the count last loaded
  pub count : ℕ
  -- the CURBE size in force, and the capacity, in rows
  pub curbe : ℕ
  pub capacity : ℕ

-- as a state tells them, where the rule of a VFE's flush is an argument
abbrev pub facts_by : Bool → State → Facts
facts_by unflushed st =
    record {
      vfe = is_set st.earlier_vfe;
      unflushed = unflushed;
      object = object_stands st;
      count = st.count_loaded;
      curbe = curbe_in_force st;
      capacity = st.capacity;
    }

-- Rows 6 to 9 read the own dwords h, by the chip's masks, and those facts.
abbrev pub own_rows_by : Facts → Chip → ℕ → List ℕ → List (Row Verdict)
own_rows_by facts c k h =
    must_be_zero c k h 1
    ∷ must_be_zero c k h 2
    ∷ must_be_zero c k h 3
    ∷ must_be_zero c k h 4
    ∷ must_be_zero c k h 5
    ∷ must_be_zero c k h 6
    ∷ must_be_zero c k h 7
    -- 7: "CURBE or descriptor length or address not a multiple of 32, or descriptor length outside 32 to 2,048 (H) (place: first such
    -- dword)"
    ∷ row (refused Alignment 2) (is_load k && not (eqb (load_length h % 32) 0))
    ∷ row (refused Alignment 2) (eqb k 5 && ltb (load_length h) 32)
    ∷ row (refused Alignment 2) (eqb k 5 && ltb 2048 (load_length h))
    ∷ row (refused Alignment 3) (is_load k && not (eqb (load_address h % 32) 0))
    -- 8: "kinds 4, 5, 7 need an earlier VFE"; kind 8 "is ordered as kind 4 is"
    ∷ row (refused Order 0) ((is_load k || eqb k 7 || eqb k 8) && not facts.vfe)
    -- 8: "A VFE needs that no command of kind 3, 4, 5 or 7 stands since the last MI_FLUSH or the start", or as Two has it: `without_flush`
    ∷ row (refused Order 0) (eqb k 3 && facts.unflushed)
    -- 8: "A descriptor load needs that no OBJECT stands since the last kind 1 or 6"
    ∷ row (refused Order 0) (eqb k 5 && facts.object)
    -- 8: "An OBJECT's index is below the count last loaded"
    ∷ row (refused Order 0) (eqb k 7 && leb facts.count (descriptor_index h))
    -- 9: "VFE: entries x entry size + CURBE size exceeds the lent capacity in rows"
    ∷ row (refused Capacity 0) (eqb k 3 && ltb facts.capacity (urb_entries h * entry_size h + curbe_size h))
    -- 9: "CURBE load: length exceeds 32 x CURBE size in force"
    ∷ row (refused Capacity 0) (eqb k 4 && ltb (32 * facts.curbe) (load_length h))
    ∷ []

abbrev pub own_rows : Chip → ℕ → List ℕ → State → List (Row Verdict)
own_rows c k h st = own_rows_by (facts_by (without_flush h st) st) c k h

-- rows 3 to 9; the first row that holds decides
unfoldable pub judge_of : ℕ → ℕ → List ℕ → State → Verdict
judge_of k left h st = first_row no_fault (header_rows k (dword h 0) left ++ own_rows st.chip k h st)

-- the halves of `judge_of`, as the code asks them
unfoldable pub header_verdict : ℕ → ℕ → ℕ → Verdict
header_verdict k d left = first_row no_fault (header_rows k d left)

unfoldable pub own_verdict : ℕ → List ℕ → State → Verdict
own_verdict k h st = first_row no_fault (own_rows st.chip k h st)

-- rows 3 to 9 as they were before document 02's Two, when only an MI_FLUSH freed a VFE
unfoldable pub judge_by_full_flush : ℕ → ℕ → List ℕ → State → Verdict
judge_by_full_flush k left h st =
    first_row no_fault (header_rows k (dword h 0) left ++ own_rows_by (facts_by (media_stands st) st) st.chip k h)

-- A quick answer to whether a command of kind k passes rows 6 to 9, for the code alone: yes is right, and no leaves it open.
pub record Vouches (k : ℕ) (h : List ℕ) (st : State) (answer : Bool) : Type 0 where
  pub passes : answer ≡ true → own_verdict k h st ≡ no_fault
