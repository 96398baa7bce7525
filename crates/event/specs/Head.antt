-- An event's bytes 0 to 15: document 01, "The gateway recording", the table of an event's bytes. No rule of an outcome reads more of it.
use Rattle.std.specs.Prelude.{ℕ, ◌+◌, ◌*◌, List, get_or}
use Rattle.laws.specs.BitRanges.{bits, field}
use Rattle.event.specs.declared.Head.{Head}

-- a byte, and a 16-bit number, the low byte first
abbrev pub byte_at : List ℕ → ℕ → ℕ
byte_at ev k = get_or ev k 0

abbrev pub half_at : List ℕ → ℕ → ℕ
half_at ev k = get_or ev k 0 + 256 * get_or ev (k + 1) 0

-- "10-15 | zero": as one number, the low byte first
abbrev pub padding_of : List ℕ → ℕ
padding_of ev = half_at ev 10 + 65536 * half_at ev 12 + 4294967296 * half_at ev 14

unfoldable pub head_of : List ℕ → Head
head_of ev =
    record {
      -- "0 | kind: 004's SubFuncID", "1 | sender"
      kind = byte_at ev 0;
      sender = byte_at ev 1;
      -- "2 | bit 0 ack, 2:1 notify, 3 end of thread, rest zero"
      ack = field (bits 0 0) (byte_at ev 2);
      notify = field (bits 2 1) (byte_at ev 2);
      ending = field (bits 3 3) (byte_at ev 2);
      stray = field (bits 7 4) (byte_at ev 2);
      -- "3 | ack register"
      register = byte_at ev 3;
      -- "4 | forward: recipient; update: barrier"
      target = byte_at ev 4;
      -- "5 | open: size code; forward: length code; update: barrier byte"
      code = byte_at ev 5;
      -- "6-7 | key"
      key = half_at ev 6;
      -- "8-9 | open: register base; forward: offset"
      place = half_at ev 8;
      padding = padding_of ev;
    }
