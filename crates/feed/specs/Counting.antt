-- How many dwords of a chunk are read and counted, as the code has it: proofs/Counting.antt (`take_chunk_lem`) shows it equal to the dwords one
-- by one, and proofs/Feeds.antt (`over_taken`) inline data that is passed over at once.
use Rattle.std.specs.Prelude.{◌≡◌, ℕ, ◌+◌, ◌-◌, ◌<◌, ◌≤◌, cond, get_or, ltb, leb}
use Rattle.chips.specs.declared.Chip.{Chip}
use Rattle.command.specs.Kinds.{kind_of, total_of, inline_from}
use Rattle.progress.specs.Parts.{dwords_left}
use Rattle.feed.specs.declared.Carried.{Carried}

-- of n dwords after so many, those among the first 16,384
abbrev pub read_count : ℕ → ℕ → ℕ
read_count dwords n = cond (leb n (16384 - dwords)) n (16384 - dwords)

-- how many have come after n more
abbrev pub dwords_after : ℕ → ℕ → ℕ
dwords_after dwords n = cond (ltb 16384 (dwords + n)) 16385 (dwords + n)

-- the next n dwords are inline data of the OBJECT that is not whole yet, which needs more, and are all among the first 16,384
pub record InInlineData (chip : Chip) (c : Carried) (n : ℕ) : Type 0 where
  pub goes : c.stop ≡ 0
  pub kind : 7 ≡ kind_of chip (get_or c.own 0 0)
  pub inline : inline_from ≤ c.got
  pub more : n < dwords_left (total_of 7 (get_or c.own 0 0)) c.got
  pub read : c.dwords + n ≤ 16384

-- n dwords more of it
abbrev pub passed_over : Carried → ℕ → Carried
passed_over c n =
    record {
      answered = c.answered;
      dwords = c.dwords + n;
      stop = c.stop;
      place = c.place;
      got = c.got + n;
      own = c.own;
      order = c.order;
    }
