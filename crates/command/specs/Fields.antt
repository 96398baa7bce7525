-- The named fields of each command, by a list h of its own dwords: document 01, "The command words".
use Rattle.std.specs.Prelude.{ℕ, ◌/◌, List, get_or}
use Rattle.laws.specs.BitRanges.{bits, field}

-- dword i
abbrev pub dword : List ℕ → ℕ → ℕ
dword h i = get_or h i 0

-- VFE: "dword 2 has in bits 31:16 the thread field, in bits 15:8 the number of URB entries, in bit 6 gateway bypass"
abbrev pub thread_field : List ℕ → ℕ
thread_field h = field (bits 31 16) (dword h 2)

abbrev pub urb_entries : List ℕ → ℕ
urb_entries h = field (bits 15 8) (dword h 2)

abbrev pub gateway_bypass : List ℕ → ℕ
gateway_bypass h = field (bits 6 6) (dword h 2)

-- "Dword 4: 31:16 entry size, 15:0 CURBE size, both in 256-bit rows"
abbrev pub entry_size : List ℕ → ℕ
entry_size h = field (bits 31 16) (dword h 4)

abbrev pub curbe_size : List ℕ → ℕ
curbe_size h = field (bits 15 0) (dword h 4)

-- "CURBE: dword 2 bits 16:0 length in bytes, dword 3 address. Descriptor load: the same places."
abbrev pub load_length : List ℕ → ℕ
load_length h = field (bits 16 0) (dword h 2)

abbrev pub load_address : List ℕ → ℕ
load_address h = dword h 3

-- "count (length / 32)"
abbrev pub load_count : List ℕ → ℕ
load_count h = load_length h / 32

-- "OBJECT: dword 1 bits 5:0 descriptor index"
abbrev pub descriptor_index : List ℕ → ℕ
descriptor_index h = field (bits 5 0) (dword h 1)

-- "dword 2 bit 31 children, 24 synchronised, 21 uses scoreboard, 16:0 indirect length"
abbrev pub children : List ℕ → ℕ
children h = field (bits 31 31) (dword h 2)

abbrev pub synchronised : List ℕ → ℕ
synchronised h = field (bits 24 24) (dword h 2)

abbrev pub scoreboard_use : List ℕ → ℕ
scoreboard_use h = field (bits 21 21) (dword h 2)

abbrev pub indirect_length : List ℕ → ℕ
indirect_length h = field (bits 16 0) (dword h 2)

-- "dword 3 indirect address"
abbrev pub indirect_address : List ℕ → ℕ
indirect_address h = dword h 3

-- "dword 4 bits 24:16 Y, 8:0 X"
abbrev pub position_x : List ℕ → ℕ
position_x h = field (bits 8 0) (dword h 4)

abbrev pub position_y : List ℕ → ℕ
position_y h = field (bits 24 16) (dword h 4)

-- "dword 5 bits 19:16 colour, 7:0 mask"
abbrev pub colour : List ℕ → ℕ
colour h = field (bits 19 16) (dword h 5)

abbrev pub scoreboard_mask : List ℕ → ℕ
scoreboard_mask h = field (bits 7 0) (dword h 5)
