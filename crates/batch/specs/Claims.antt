-- What is claimed of every batch check, beside what it is: why it answers so, and what it leaves in the record buffer. Document 01, "Why a
-- batch is turned away".
use Rattle.std.specs.Prelude.{◌≡◌, ◌⊎◌, List, ◌++◌, ℕ, ◌*◌, ◌/◌, ◌%◌, ◌^◌, ◌<◌, ◌≤◌, length, get_or, take}
use Rattle.chips.specs.declared.Chip.{Chip}
use Rattle.chips.specs.declared.Target.{Target}
use Rattle.chips.specs.Chips.{number_of, target_of, ForChip, ByChip}
use Rattle.words.specs.Dwords.{le_at, dwords_of}
use Rattle.command.specs.Order.{Command}
use Rattle.record.specs.Record.{record_of}
use Rattle.reading.specs.Reading.{ended, stopped}
use Rattle.reading.specs.EndToEnd.{Laid}
use Rattle.reading.specs.Vfes.{command_number}
use Rattle.records.specs.Records.{slot}
use Rattle.batch.specs.declared.Answer.{Answer}
use Rattle.batch.specs.Answers.{refused_answer, accepted_answer, answer_of, records_of, bytes_answer_of, bytes_records_of}

-- The answer that is due to a batch of the dwords b for a known chip, with so many bytes over (0 in the dword entry) and a record buffer of
-- so many words: number 0 is success, and nothing else is.
pub data DueFor (target : Target) (b : List ℕ) (over room : ℕ) : Answer → Type 0 where
  -- 17: "byte entry only: .. not a multiple of 4 bytes; checked first (place: its whole dwords)"
  odd : (over ≡ 0 → ⊥) → DueFor target b over room (refused_answer 17 (length b))
  -- 1: "over 16,384 dwords (place 0)"
  long : over ≡ 0 → 16384 < length b → DueFor target b over room (refused_answer 1 0)
  -- 2 to 9: "The first faulty command decides", or "slice used up before END"
  faulty : {cs : List Command} {m p : ℕ} → over ≡ 0 → length b ≤ 16384 → Laid target b cs (stopped m p) → 2 ≤ m → m ≤ 9
      → DueFor target b over room (refused_answer m p)
  -- 10: "all commands pass, but the record buffer has fewer than 16 words per command (place: dwords read)"
  full : {cs : List Command} {d : ℕ} → over ≡ 0 → length b ≤ 16384 → Laid target b cs (ended d) → room < 16 * length cs
      → DueFor target b over room (refused_answer 10 d)
  -- "Success returns commands and dwords read, END included"
  success : {cs : List Command} {d : ℕ} → over ≡ 0 → length b ≤ 16384 → Laid target b cs (ended d) → 16 * length cs ≤ room
      → DueFor target b over room (accepted_answer (length cs) d)

-- The same for any number as the chip. 18: "chip neither 6 nor 7, checked before all others".
abbrev pub Due : ℕ → ℕ → List ℕ → ℕ → ℕ → Answer → Type 0
Due chip capacity b over room answer =
    ByChip chip (answer ≡ refused_answer 18 0) (λ c. DueFor (target_of c capacity) b over room answer)

-- what an answer's numbers tell apart: a refusal has one of the table's, or 18, and what the paper leaves free is 0
pub record Numbers (answer : Answer) : Type 0 where
  pub number : (answer.number ≤ 10) ⊎ ((answer.number ≡ 17) ⊎ (answer.number ≡ 18))
  pub refused : 0 < answer.number → (answer.commands ≡ 0) × (answer.dwords ≡ 0)
  pub accepted : answer.number ≡ 0 → answer.place ≡ 0

-- the dword entry: the answer, and what the record buffer is at exit
pub record Claims (chip capacity : ℕ) (batch records : List ℕ) (answer : Answer) (filled : List ℕ) : Type 0 where
  -- one answer is due, and this is it
  pub due : Due chip capacity batch 0 (length records) answer
  pub only : (other : Answer) → Due chip capacity batch 0 (length records) other → other ≡ answer
  pub numbers : Numbers answer
  -- "Nothing lent changes on any refusal of this table"; 18 is "A new refusal", which "changes nothing lent"
  pub refused : 0 < answer.number → filled ≡ records
  -- success "fills that many records": word f of the record of command i
  pub record_at : answer.number ≡ 0 → (c : Chip) → chip ≡ number_of c → (cs : List Command) (d : ℕ)
      → Laid (target_of c capacity) batch cs (ended d) → (i f : ℕ) → i < length cs → f < 16
      → get_or filled (slot i f) 0 ≡ get_or (record_of (command_number cs i)) f 0
  -- "nothing past them", which after a refusal, with no commands, is the whole buffer
  pub past : (k : ℕ) → 16 * answer.commands ≤ k → get_or filled k 0 ≡ get_or records k 0
  pub size : length filled ≡ length records

-- the byte entry: "Records there take 64 bytes each", a word four of them, which hold 32 bits
pub record BytesClaims (chip capacity : ℕ) (batch records : List ℕ) (answer : Answer) (filled : List ℕ) : Type 0 where
  pub due : Due chip capacity (dwords_of batch) (length batch % 4) (length records / 4) answer
  pub only : (other : Answer) → Due chip capacity (dwords_of batch) (length batch % 4) (length records / 4) other → other ≡ answer
  pub numbers : Numbers answer
  pub refused : 0 < answer.number → filled ≡ records
  pub record_at : answer.number ≡ 0 → (c : Chip) → chip ≡ number_of c → (cs : List Command) (d : ℕ)
      → Laid (target_of c capacity) (dwords_of batch) cs (ended d) → (i f : ℕ) → i < length cs → f < 16
      → le_at filled (4 * slot i f) ≡ get_or (record_of (command_number cs i)) f 0 % 2 ^ 32
  pub past : (k : ℕ) → 64 * answer.commands ≤ k → get_or filled k 0 ≡ get_or records k 0
  pub size : length filled ≡ length records

-- every batch check, over dwords and over bytes, whatever is lent
pub record AllClaimed : Type 0 where
  pub dwords : (chip capacity : ℕ) (batch records : List ℕ)
      → Claims chip capacity batch records (answer_of chip capacity batch records) (records_of chip capacity batch records)
  pub bytes : (chip capacity : ℕ) (batch records : List ℕ)
      → BytesClaims chip capacity batch records (bytes_answer_of chip capacity batch records) (bytes_records_of chip capacity batch records)
  -- "Dwords after END are not read": any others of the same number in their place give the same answer and the same records. END is where
  -- the chip named finds it; where none is named, any place will do.
  pub after_end : (chip capacity : ℕ) (batch records : List ℕ) (cs : List Command) (d : ℕ)
      → ForChip chip (λ c. Laid (target_of c capacity) batch cs (ended d))
      → (others : List ℕ) → length (take d batch ++ others) ≡ length batch
      → (answer_of chip capacity (take d batch ++ others) records ≡ answer_of chip capacity batch records)
      × (records_of chip capacity (take d batch ++ others) records ≡ records_of chip capacity batch records)
  pub bytes_after_end : (chip capacity : ℕ) (batch records : List ℕ) (cs : List Command) (d : ℕ)
      → ForChip chip (λ c. Laid (target_of c capacity) (dwords_of batch) cs (ended d))
      → (others : List ℕ) → length (take (4 * d) batch ++ others) ≡ length batch
      → (bytes_answer_of chip capacity (take (4 * d) batch ++ others) records ≡ bytes_answer_of chip capacity batch records)
      × (bytes_records_of chip capacity (take (4 * d) batch ++ others) records ≡ bytes_records_of chip capacity batch records)
