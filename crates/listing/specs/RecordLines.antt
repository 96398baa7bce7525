-- The lines as the code has them, out of the records.
use Rattle.std.specs.Prelude.{ℕ, zero, suc, ◌<◌, List, [], ◌++◌, get_or}
use Rattle.records.specs.Records.{slot}
use Rattle.text.specs.Lines.{line_of}

-- the first n records are of kinds that have a name
abbrev pub KindsNamed : List ℕ → ℕ → Type 0
KindsNamed records n = (i : ℕ) → i < n → get_or records (slot i 0) 0 < 9

-- the lines of the first n records; `recorded_lines` of proofs/Recorded.antt shows that these are the lines of the commands
unfoldable pub record_lines : List ℕ → ℕ → List ℕ
record_lines records zero = []
record_lines records (suc i) =
    record_lines records i ++ line_of (get_or records (slot i 1) 0) (get_or records (slot i 0) 0) (get_or records (slot i 2) 0)
