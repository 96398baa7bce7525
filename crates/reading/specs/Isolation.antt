-- Demand 3, batches: two that differ only in inline data of objects passed. "A command is passed when neither it nor an earlier one is
-- faulty, whatever 1, 10 and 17 say": so by the reading, which has none of the three in it.
use Rattle.std.specs.Prelude.{◌≡◌, List, ℕ, ◌/◌, length, get_or}
use Rattle.chips.specs.declared.Target.{Target}
use Rattle.words.specs.Dwords.{dwords_of}
use Rattle.reading.specs.Reading.{reading_of}
use Rattle.reading.specs.Unread.{Inline}

-- "two batches that differ only in inline data of objects passed before the reading stopped": they agree at every dword that is not inline
-- data of an OBJECT passed in the first. "Two things said to agree but for some bytes, or to differ only in some, have one length."
pub record Alike (target : Target) (b b' : List ℕ) : Type 0 where
  pub size : length b ≡ length b'
  pub agree : (i : ℕ) → (Inline (reading_of target b).passed i → ⊥) → get_or b i 0 ≡ get_or b' i 0

-- the same over bytes: byte i is one of the four of dword i / 4
pub record BytesAlike (target : Target) (b b' : List ℕ) : Type 0 where
  pub size : length b ≡ length b'
  pub agree : (i : ℕ) → (Inline (reading_of target (dwords_of b)).passed (i / 4) → ⊥) → get_or b i 0 ≡ get_or b' i 0
