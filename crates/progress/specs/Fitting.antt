-- The records of commands, "as many as fit".
use Rattle.std.specs.Prelude.{ℕ, ◌+◌, List, [], ◌∷◌}
use Rattle.command.specs.Order.{Command}
use Rattle.record.specs.Record.{record_of}
use Rattle.progress.specs.Steps.{fitted}

-- from record i on
unfoldable pub written_fit : List Command → ℕ → List ℕ → List ℕ
written_fit [] i r = r
written_fit (c ∷ cs) i r = written_fit cs (i + 1) (fitted r i (record_of c))
