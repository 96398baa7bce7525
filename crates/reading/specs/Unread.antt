-- Dwords of a batch that no rule reads: what demand 3 and the law on what follows END speak of.
use Rattle.std.specs.Prelude.{◌≡◌, ◌⊎◌, List, [], ◌∷◌, ℕ, ◌+◌, ◌≤◌, ◌<◌}
use Rattle.command.specs.Kinds.{inline_from}
use Rattle.command.specs.Order.{Command}
use Rattle.reading.specs.Reading.{Stop, ended, stopped, Reading}

-- dword i of the batch is inline data of the command c: "Inline data is an OBJECT's dwords from 6 on"
abbrev pub InlineData : Command → ℕ → Type 0
InlineData c i = (c.kind ≡ 7) × (c.place + inline_from ≤ i) × (i < c.place + c.total)

-- of one of the commands
abbrev pub Inline : List Command → ℕ → Type 0
Inline [] i = ⊥
Inline (c ∷ cs) i = InlineData c i ⊎ Inline cs i

-- "Dwords after END are not read."
abbrev pub AfterEnd : Stop → ℕ → Type 0
AfterEnd (ended dwords) i = dwords ≤ i
AfterEnd (stopped m p) i = ⊥

abbrev pub Unread : Reading → ℕ → Type 0
Unread r i = Inline r.passed i ⊎ AfterEnd r.stop i
