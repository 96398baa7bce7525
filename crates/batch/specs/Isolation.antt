-- Guards of the words of demand 3, batches (`Alike`, `BytesAlike` of reading): what those words take in, said of every batch, whatever
-- stops it, and whatever 1, 10 and 17 say. A word that took in less, or passed fewer commands, would not meet them.
use Rattle.std.specs.Prelude.{◌≡◌, List, ℕ, ◌+◌, ◌*◌, ◌<◌, ◌≤◌, length, set}
use Rattle.chips.specs.declared.Target.{Target}
use Rattle.words.specs.Dwords.{dwords_of}
use Rattle.command.specs.Order.{Command}
use Rattle.reading.specs.Reading.{Stop, reading, reading_of}
use Rattle.reading.specs.EndToEnd.{Laid}
use Rattle.reading.specs.Isolation.{Alike, BytesAlike}
use Rattle.reading.specs.Vfes.{command_number}

pub record Guards : Type 0 where
  -- what is passed: the commands laid end to end up to where reading stops, and no others
  pub passed : (target : Target) (b : List ℕ) → Laid target b (reading_of target b).passed (reading_of target b).stop
  pub only : (target : Target) (b : List ℕ) (cs : List Command) (stop : Stop) → Laid target b cs stop
      → reading_of target b ≡ reading cs stop
  -- "Inline data is an OBJECT's dwords from 6 on": any value in any such dword of any OBJECT passed makes a batch that differs only there
  pub inline : (target : Target) (b : List ℕ) (cs : List Command) (stop : Stop) → Laid target b cs stop
      → (m : ℕ) → m < length cs → (command_number cs m).kind ≡ 7 → (i : ℕ) → 6 ≤ i → i < (command_number cs m).total
      → (v : ℕ) → Alike target b (set b ((command_number cs m).place + i) v)
  -- over bytes: any value in any of its four bytes
  pub inline_bytes : (target : Target) (b : List ℕ) (cs : List Command) (stop : Stop) → Laid target (dwords_of b) cs stop
      → (m : ℕ) → m < length cs → (command_number cs m).kind ≡ 7 → (i : ℕ) → 6 ≤ i → i < (command_number cs m).total
      → (j : ℕ) → j < 4 → (v : ℕ) → BytesAlike target b (set b (4 * ((command_number cs m).place + i) + j) v)
