-- The kinds of command: document 01, "The command words"; document 02, One, "the extra command MEDIA_GATEWAY_STATE".
use Rattle.std.specs.Prelude.{ℕ, ◌+◌, ◌/◌, ◌%◌, ◌^◌, ◌<◌, ◌≤◌, Bool, true, false, cond, ◌&&◌, List, [], ◌∷◌, ◌≡◌, length, get_or, ltb, leb, eqb}
use Rattle.laws.specs.BitRanges.{bits, field}
use Rattle.laws.specs.Rows.{Row, row, first_row}
use Rattle.chips.specs.declared.Chip.{Chip}
use Rattle.chips.specs.declared.Chip.TheVariants.{Gen6, Gen7}

-- The table's headers, of kinds 0 to 8. An OBJECT's is "0x7100nnnn, nnnn from 4": here with the least length.
abbrev headers : List ℕ
headers =
    -- 0 no-op
    0x0000_0000
    -- 1 MI_FLUSH
    ∷ 0x0200_0000
    -- 2 END
    ∷ 0x0500_0000
    -- 3 MEDIA_VFE_STATE
    ∷ 0x7000_0006
    -- 4 MEDIA_CURBE_LOAD
    ∷ 0x7001_0002
    -- 5 MEDIA_INTERFACE_DESCRIPTOR_LOAD
    ∷ 0x7002_0002
    -- 6 MEDIA_STATE_FLUSH
    ∷ 0x7004_0000
    -- 7 MEDIA_OBJECT
    ∷ 0x7100_0004
    -- 8 MEDIA_GATEWAY_STATE: document 000, lines 803 to 811
    ∷ 0x7003_0000
    ∷ []

abbrev pub header : ℕ → ℕ
header k = get_or headers k 0

-- Is d the first dword of a command of kind k? "Kinds 0 to 2 match as a whole dword (H)"; a media command by its type and opcodes, "Bits
-- 31:29 of a media header are 3, 28:27 are 2, 26:24 opcode, 23:16 subopcode".
abbrev pub is_kind : ℕ → ℕ → Bool
is_kind k d = cond (ltb k 3) (eqb d (header k)) (eqb (field (bits 31 16) d) (header k / 2 ^ 16))

-- no command of the table
abbrev pub no_kind : ℕ
no_kind = 255

-- "MEDIA_GATEWAY_STATE on Gen7 stays 3": the table of Gen6 alone has it
abbrev pub has_gateway_state : Chip → Bool
has_gateway_state Gen6 = true
has_gateway_state Gen7 = false

-- the chip's table, for a command's first dword
abbrev pub kind_rows : Chip → ℕ → List (Row ℕ)
kind_rows c d =
    row 0 (is_kind 0 d)
    ∷ row 1 (is_kind 1 d)
    ∷ row 2 (is_kind 2 d)
    ∷ row 3 (is_kind 3 d)
    ∷ row 4 (is_kind 4 d)
    ∷ row 5 (is_kind 5 d)
    ∷ row 6 (is_kind 6 d)
    ∷ row 7 (is_kind 7 d)
    ∷ row 8 (has_gateway_state c && is_kind 8 d)
    ∷ []

-- the kind, by a command's first dword, in the chip's table
unfoldable pub kind_of : Chip → ℕ → ℕ
kind_of c d = first_row no_kind (kind_rows c d)

-- kinds 3 to 8
abbrev pub is_media : ℕ → Bool
is_media k = leb 3 k && leb k 8

-- "15:0 length (total dwords minus 2)"
abbrev pub length_field : ℕ → ℕ
length_field d = field (bits 15 0) d

-- the length field of a kind's header in the table
abbrev pub length_of : ℕ → ℕ
length_of k = header k % 2 ^ 16

-- What a kind allows in the length field: what its header has, and an OBJECT that or more. Kinds 0 to 2 have no such field.
unfoldable pub length_allowed : ℕ → ℕ → Bool
length_allowed k n = cond (ltb k 3) true (cond (eqb k 7) (leb (length_of k) n) (is_media k && eqb n (length_of k)))

-- the total, in dwords: 1 for kinds 0 to 2, "nnnn + 2" for a media command
unfoldable pub total_of : ℕ → ℕ → ℕ
total_of k d = cond (ltb k 3) 1 (length_field d + 2)

-- "inline data from dword 6": the first that is not an OBJECT's own
abbrev pub inline_from : ℕ
inline_from = 6

-- How many dwords a kind has of its own: its whole total, but of an OBJECT those before its inline data.
unfoldable pub own_dwords : ℕ → ℕ
own_dwords k = cond (eqb k 7) inline_from (cond (is_media k) (length_of k + 2) 1)

-- dword i of a command with n dwords of its own that the list starts with, and 0 where that is not one of them
abbrev pub own_dword : ℕ → List ℕ → ℕ → ℕ
own_dword n l i = cond (ltb i n) (get_or l i 0) 0

-- the n own dwords of a command that the list starts with, filled up to eight with zeros
abbrev pub first_dwords : ℕ → List ℕ → List ℕ
first_dwords n l =
    get_or l 0 0
    ∷ own_dword n l 1
    ∷ own_dword n l 2
    ∷ own_dword n l 3
    ∷ own_dword n l 4
    ∷ own_dword n l 5
    ∷ own_dword n l 6
    ∷ own_dword n l 7
    ∷ []

-- a command's own dwords, by its kind: all that any rule reads of it
unfoldable pub head_of : ℕ → List ℕ → List ℕ
head_of k l = first_dwords (own_dwords k) l

-- what reading them asks for: n dwords from a place on, of which the first is d
abbrev pub DwordsAt : List ℕ → ℕ → ℕ → ℕ → Type 0
DwordsAt l at n d = (at + n ≤ length l) × (at < 2 ^ 32) × (d ≡ get_or l at 0)
