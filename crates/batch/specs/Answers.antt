-- What the batch check answers, and what it leaves in the lent record buffer: document 01, "Why a batch is turned away".
use Rattle.std.specs.Prelude.{ℕ, ◌/◌, List, length, set}
use Rattle.chips.specs.declared.Target.{Target}
use Rattle.chips.specs.Chips.{target_of, on_chip}
use Rattle.words.specs.Dwords.{dwords_of, put_le}
use Rattle.reading.specs.Decision.{Scanned, Stopped, Ended, decided, whole_dwords}
use Rattle.records.specs.Records.{recorded}
use Rattle.batch.specs.declared.Answer.{Answer}

-- "An answer is every number returned." What the paper leaves free, the place on success and the counts on refusal, is 0.
abbrev pub refused_answer : ℕ → ℕ → Answer
refused_answer number place = record { number = number; place = place; commands = 0; dwords = 0 }

abbrev pub accepted_answer : ℕ → ℕ → Answer
accepted_answer commands dwords = record { number = 0; place = 0; commands = commands; dwords = dwords }

-- by what the decision found
abbrev pub answer_by : Scanned → Answer
answer_by (Stopped m p) = refused_answer m p
answer_by (Ended c d o) = accepted_answer c d

-- The record buffer r at exit: "Nothing lent changes on any refusal of this table"; success "fills that many records, nothing past them".
unfoldable pub recorded_in : {B : Type 0} → (B → ℕ → ℕ → B) → Target → ℕ → List ℕ → B → B
recorded_in put target room b r = decided (λ m p. r) (λ c d. recorded put target b r) target room b

-- for a known chip: the dword entry, given the chip and the capacity in rows, the batch and the record buffer
unfoldable pub answer_for : Target → List ℕ → List ℕ → Answer
answer_for target b r = decided refused_answer accepted_answer target (length r) b

unfoldable pub records_for : Target → List ℕ → List ℕ → List ℕ
records_for target b r = recorded_in set target (length r) b r

-- the byte entry: "Records there take 64 bytes each"
unfoldable pub bytes_answer_for : Target → List ℕ → List ℕ → Answer
bytes_answer_for target b r = whole_dwords refused_answer b (decided refused_answer accepted_answer target (length r / 4) (dwords_of b))

unfoldable pub bytes_records_for : Target → List ℕ → List ℕ → List ℕ
bytes_records_for target b r = whole_dwords (λ m p. r) b (recorded_in put_le target (length r / 4) (dwords_of b) r)

-- The entries, for any number as the chip: 18 before all else, and nothing lent changes.
unfoldable pub answer_of : ℕ → ℕ → List ℕ → List ℕ → Answer
answer_of chip capacity b r = on_chip refused_answer (λ c. answer_for (target_of c capacity) b r) chip

unfoldable pub records_of : ℕ → ℕ → List ℕ → List ℕ → List ℕ
records_of chip capacity b r = on_chip (λ m p. r) (λ c. records_for (target_of c capacity) b r) chip

unfoldable pub bytes_answer_of : ℕ → ℕ → List ℕ → List ℕ → Answer
bytes_answer_of chip capacity b r = on_chip refused_answer (λ c. bytes_answer_for (target_of c capacity) b r) chip

unfoldable pub bytes_records_of : ℕ → ℕ → List ℕ → List ℕ → List ℕ
bytes_records_of chip capacity b r = on_chip (λ m p. r) (λ c. bytes_records_for (target_of c capacity) b r) chip
