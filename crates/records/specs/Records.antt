-- The records in the lent buffer. `put` stores a word at a place of the buffer: `set` for dwords, `put_le` for bytes.
use Rattle.std.specs.Prelude.{ℕ, zero, suc, ◌+◌, ◌*◌, ◌≤◌, List, [], ◌∷◌, length, get_or}
use Rattle.chips.specs.declared.Target.{Target}
use Rattle.command.specs.Order.{Command}
use Rattle.record.specs.Record.{record_of}
use Rattle.reading.specs.Reading.{Whole, reading_of}

-- where word f of record i stands: "A record is 16 words"
abbrev pub slot : ℕ → ℕ → ℕ
slot i f = 16 * i + f

module _ {B : Type 0} (put : B → ℕ → ℕ → B) where
  -- the first n words of record i set to those of a list
  unfoldable pub put_words : B → ℕ → List ℕ → ℕ → B
  put_words r i ws zero = r
  put_words r i ws (suc f) = put (put_words r i ws f) (slot i f) (get_or ws f 0)

  -- the records of commands, from record i on
  unfoldable pub written : List Command → ℕ → B → B
  written [] i r = r
  written (c ∷ cs) i r = written cs (i + 1) (put_words r i (record_of c) 16)

-- a batch within the limit, read to its END, with room for the records of its commands in so many words
abbrev pub Fits : Target → List ℕ → ℕ → Type 0
Fits target b room = (length b ≤ 16384) × Whole (reading_of target b).stop × (16 * length (reading_of target b).passed ≤ room)

-- the record buffer with the records of the commands passed
abbrev pub recorded : {B : Type 0} → (B → ℕ → ℕ → B) → Target → List ℕ → B → B
recorded put target b r = written put (reading_of target b).passed 0 r
