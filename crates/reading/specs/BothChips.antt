-- What passes on both chips: one reading. Document 02, One: the masks and one command are all that a chip has of its own.
use Rattle.std.specs.Prelude.{◌≡◌, List, ℕ}
use Rattle.chips.specs.declared.Chip.TheVariants.{Gen6, Gen7}
use Rattle.chips.specs.Chips.{target_of}
use Rattle.reading.specs.Reading.{Whole, reading_of}

-- A batch read to its END on both chips is read alike: the same commands, so the same records. It holds no MEDIA_GATEWAY_STATE, which is 3
-- on Gen7.
abbrev pub BothChips : Type 0
BothChips =
    (capacity : ℕ) (b : List ℕ) → Whole (reading_of (target_of Gen6 capacity) b).stop → Whole (reading_of (target_of Gen7 capacity) b).stop
    → reading_of (target_of Gen6 capacity) b ≡ reading_of (target_of Gen7 capacity) b
