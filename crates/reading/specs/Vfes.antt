-- The VFE in force for an OBJECT.
use Rattle.std.specs.Prelude.{◌≡◌, List, [], ℕ, ◌<◌, length, get_or}
use Rattle.command.specs.Order.{Command}

-- what no command of a list is
abbrev pub no_command : Command
no_command = record { kind = 0; place = 0; total = 0; head = []; vfe = 0; object = 0 }

-- command i of a list, by its record number
abbrev pub command_number : List Command → ℕ → Command
command_number cs i = get_or cs i no_command

-- number v of a list is the VFE in force at number n of it, the nearest one before, whatever flushes stand between
pub record NearestVfe (cs : List Command) (n v : ℕ) : Type 0 where
  pub before : v < n
  pub vfe : (command_number cs v).kind ≡ 3
  pub nearest : (j : ℕ) → v < j → j < n → (command_number cs j).kind ≡ 3 → ⊥

-- Each OBJECT of a list names the VFE in force, so that of VFEs that differ in deltas, type, mask or enable it is judged by its own.
abbrev pub UnderVfe : List Command → Type 0
UnderVfe cs = (i : ℕ) → i < length cs → (command_number cs i).kind ≡ 7 → NearestVfe cs i (command_number cs i).vfe
