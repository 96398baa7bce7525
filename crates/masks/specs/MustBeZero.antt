-- The bits that the manuals' tables mark must-be-zero, MBZ: document 01, "Bits that 003's tables mark must-be-zero stand in one constant
-- table of must-be-zero masks". For Gen6 document 02, One, asks for "its own must-be-zero masks", from document 000. A row that is reserved
-- without that mark, or a bit with no row, is not judged.
use Rattle.std.specs.Prelude.{ℕ, Bool, true, false, ◌&&◌, List, [], ◌∷◌, eqb}
use Rattle.chips.specs.declared.Chip.{Chip}
use Rattle.chips.specs.declared.Chip.TheVariants.{Gen6, Gen7}
use Rattle.chips.specs.Chips.{number_of}
use Rattle.laws.specs.BitRanges.{Bits, bits}

-- a marked range of bits in a dword of a kind of command, in the table of a chip, here by its number
pub record Mark : Type 0 where
  pub chip : ℕ
  pub kind : ℕ
  pub dword : ℕ
  pub range : Bits

-- chip, kind, dword, high bit, low bit
abbrev mark : ℕ → ℕ → ℕ → ℕ → ℕ → Mark
mark c k i high low = record { chip = c; kind = k; dword = i; range = bits high low }

-- Gen6, then Gen7; in each dword from the high bits down. A comment gives the line at which the row stands, of document 000
-- (000_b2573d073801b198.txt) for Gen6, of document 003 (003_8a9dfbeedee1f4a7.txt) for Gen7.
unfoldable pub marks : List Mark
marks =
    -- Gen6, 3 MEDIA_VFE_STATE
    -- line 656
    mark 6 3 1 9 8
    -- line 668
    ∷ mark 6 3 2 4 3
    -- line 669
    ∷ mark 6 3 2 2 2
    -- line 672
    ∷ mark 6 3 3 7 0
    -- line 681
    ∷ mark 6 3 5 29 8
    -- Gen6, 4 MEDIA_CURBE_LOAD
    -- line 706
    ∷ mark 6 4 1 31 0
    -- line 707
    ∷ mark 6 4 2 31 17
    -- Gen6, 5 MEDIA_INTERFACE_DESCRIPTOR_LOAD
    -- line 724
    ∷ mark 6 5 1 31 5
    -- line 725
    ∷ mark 6 5 1 4 0
    -- line 726
    ∷ mark 6 5 2 31 17
    -- Gen6, 6 MEDIA_STATE_FLUSH
    -- line 834
    ∷ mark 6 6 1 31 24
    -- Gen6, 7 MEDIA_OBJECT
    -- line 850
    ∷ mark 6 7 1 7 6
    -- line 857
    ∷ mark 6 7 2 30 25
    -- line 859
    ∷ mark 6 7 2 23 22
    -- line 861
    ∷ mark 6 7 2 20 20
    -- line 873, in the text: "Bits 31:29 MBZ"
    ∷ mark 6 7 3 31 29
    -- line 874
    ∷ mark 6 7 4 31 25
    -- line 876
    ∷ mark 6 7 4 15 9
    -- line 878
    ∷ mark 6 7 5 31 20
    -- line 880
    ∷ mark 6 7 5 15 8
    -- Gen6, 8 MEDIA_GATEWAY_STATE
    -- line 812
    ∷ mark 6 8 1 31 24
    -- Gen7, 3 MEDIA_VFE_STATE
    -- line 2991
    ∷ mark 7 3 1 9 8
    -- line 2996
    ∷ mark 7 3 1 7 4
    -- line 3106
    ∷ mark 7 3 3 7 2
    -- line 3111
    ∷ mark 7 3 3 1 0
    -- line 3215
    ∷ mark 7 3 5 29 8
    -- Gen7, 4 MEDIA_CURBE_LOAD
    -- line 3452
    ∷ mark 7 4 1 31 0
    -- line 3459
    ∷ mark 7 4 2 31 17
    -- Gen7, 5 MEDIA_INTERFACE_DESCRIPTOR_LOAD
    -- line 3582
    ∷ mark 7 5 1 31 5
    -- line 3589
    ∷ mark 7 5 1 4 0
    -- line 3596
    ∷ mark 7 5 2 31 17
    -- Gen7, 6 MEDIA_STATE_FLUSH
    -- line 4121
    ∷ mark 7 6 1 31 9
    -- line 4143
    ∷ mark 7 6 1 7 7
    -- Gen7, 7 MEDIA_OBJECT
    -- line 4257
    ∷ mark 7 7 1 7 6
    -- line 4295
    ∷ mark 7 7 2 30 25
    -- line 4313
    ∷ mark 7 7 2 23 23
    -- line 4318
    ∷ mark 7 7 2 22 22
    -- line 4340
    ∷ mark 7 7 2 20 20
    -- line 4347
    ∷ mark 7 7 2 19 19
    -- line 4440, a note: "Bits 31:29 MBZ"
    ∷ mark 7 7 3 31 29
    -- line 4443
    ∷ mark 7 7 4 31 25
    -- line 4456
    ∷ mark 7 7 4 15 9
    -- line 4469
    ∷ mark 7 7 5 31 20
    -- line 4484
    ∷ mark 7 7 5 15 8
    ∷ []

-- a range, where the test says so, before others
abbrev add_if : Bool → Bits → List Bits → List Bits
add_if true r rs = r ∷ rs
add_if false r rs = rs

-- of a list of marks, the ranges in dword i of kind k, for a chip
abbrev ranges_in : Chip → ℕ → ℕ → List Mark → List Bits
ranges_in c k i [] = []
ranges_in c k i (m ∷ ms) =
    add_if (eqb m.chip (number_of c) && eqb m.kind k && eqb m.dword i) m.range (ranges_in c k i ms)

unfoldable pub marked_bits : Chip → ℕ → ℕ → List Bits
marked_bits c k i = ranges_in c k i marks

-- the chip's row in the table of masks
abbrev pub row_of : Chip → ℕ
row_of Gen6 = 0
row_of Gen7 = 1
