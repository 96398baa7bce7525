-- Demand 3, one statement of two halves, over the definitions that the contracts cite. The terms are those of document 01, "What each
-- entry owes its caller"; each half's words stand beside its definitions, reading/specs/Isolation.antt, feed/specs/Claims.antt and
-- replay_claims/specs/Isolation.antt. Beside each half stand the guards of its words: whatever the paper lets differ, they let differ too.
use Rattle.std.specs.Prelude.{◌≡◌, List, ℕ}
use Rattle.chips.specs.declared.Chip.{Chip}
use Rattle.chips.specs.Chips.{number_of, target_of, Unnamed, ForChip}
use Rattle.words.specs.Dwords.{dwords_of}
use Rattle.reading.specs.Reading.{reading_of}
use Rattle.reading.specs.Isolation.{Alike, BytesAlike}
use Rattle.batch.specs.Answers.{answer_of, records_of, bytes_answer_of, bytes_records_of}
use Rattle.batch.specs.Isolation as checks
use Rattle.feed.specs.Claims as cuttings
use Rattle.feed.specs.Claims.{Call, joined, SameCut}
use Rattle.scoreboard.specs.Answers.{order_of, bytes_order_of}
use Rattle.replay_claims.specs.Isolation as replays
use Rattle.replay_claims.specs.Isolation.{Outside, Isolated}
use Rattle.listing.specs.Listing.{text_of, listed_in}

-- "Pick one thread. Take any recording .. and a second that agrees with it but for the data bytes of forwards naming that thread as
-- recipient. Each is replayed from closed gateways, over lent buffers that agree but for that thread's registers." The thread is any n.
abbrev pub Recordings : Type 0
Recordings =
    (n : ℕ) (rec rec' registers registers' counts outcomes : List ℕ)
    → replays.Alike n rec rec' → Outside n registers registers' → Isolated n rec rec' registers registers' counts outcomes

-- "The batch check, the order check .. answer both alike, given the same run, capacity and lent buffers. Every record, state byte .. ends
-- the same", document 02, One: "for the chip named". r are the record words lent, and each list is the whole buffer. The order check's
-- equation has its answer, records and states.
pub record Same (chip capacity : ℕ) (b b' run r states : List ℕ) : Type 0 where
  -- that the second passes the same is proved, not assumed
  pub passed : ForChip chip (λ c. reading_of (target_of c capacity) b ≡ reading_of (target_of c capacity) b')
  pub answer : answer_of chip capacity b r ≡ answer_of chip capacity b' r
  pub records : records_of chip capacity b r ≡ records_of chip capacity b' r
  pub order : order_of chip capacity b run r states ≡ order_of chip capacity b' run r states

-- the same over bytes: b, run and r are bytes
pub record BytesSame (chip capacity : ℕ) (b b' run r states : List ℕ) : Type 0 where
  pub passed : ForChip chip (λ c. reading_of (target_of c capacity) (dwords_of b) ≡ reading_of (target_of c capacity) (dwords_of b'))
  pub answer : bytes_answer_of chip capacity b r ≡ bytes_answer_of chip capacity b' r
  pub records : bytes_records_of chip capacity b r ≡ bytes_records_of chip capacity b' r
  pub order : bytes_order_of chip capacity b run r states ≡ bytes_order_of chip capacity b' run r states

-- "For a program the claim is of the bytes made for printing from what it read": on input of any length, and the whole text buffer at exit
pub record ListedSame (chip : Chip) (input input' text : List ℕ) : Type 0 where
  pub bytes : text_of chip input ≡ text_of chip input'
  pub buffer : listed_in chip input text ≡ listed_in chip input' text

-- "Now take two batches that differ only in inline data of objects passed before the reading stopped", as the chip named reads them. Where
-- the number names no chip, any two batches are answered alike: nothing is asked of them.
abbrev pub AlikeFor : ℕ → ℕ → List ℕ → List ℕ → Type 0
AlikeFor chip capacity b b' = ForChip chip (λ c. Alike (target_of c capacity) b b')

-- the same over bytes
abbrev pub BytesAlikeFor : ℕ → ℕ → List ℕ → List ℕ → Type 0
BytesAlikeFor chip capacity b b' = ForChip chip (λ c. BytesAlike (target_of c capacity) b b')

-- the guards of these words: for a chip's number no more is asked than for that chip, and for any other number nothing
pub record ChipGuards : Type 0 where
  pub named : (c : Chip) (capacity : ℕ) (b b' : List ℕ) → Alike (target_of c capacity) b b' → AlikeFor (number_of c) capacity b b'
  pub unnamed : (chip capacity : ℕ) (b b' : List ℕ) → Unnamed chip → AlikeFor chip capacity b b'
  pub named_bytes : (c : Chip) (capacity : ℕ) (b b' : List ℕ) → BytesAlike (target_of c capacity) b b'
      → BytesAlikeFor (number_of c) capacity b b'
  pub unnamed_bytes : (chip capacity : ℕ) (b b' : List ℕ) → Unnamed chip → BytesAlikeFor chip capacity b b'

-- a listing has 2,048 rows
pub record Batches : Type 0 where
  pub dwords : (chip capacity : ℕ) (b b' run r states : List ℕ) → AlikeFor chip capacity b b' → Same chip capacity b b' run r states
  pub bytes : (chip capacity : ℕ) (b b' run r states : List ℕ) → BytesAlikeFor chip capacity b b'
      → BytesSame chip capacity b b' run r states
  -- document 02, Three, "Demand 3 holds here too": each batch cut in its own way, then any calls, which are refused with 19
  pub chunks : (chip capacity : ℕ) (cut cut' : List (List ℕ)) (last last' r : List ℕ) (late late' : List Call)
      → AlikeFor chip capacity (joined cut last) (joined cut' last') → SameCut chip capacity cut cut' last last' r late late'
  pub listing : (chip : Chip) (input input' text : List ℕ) → BytesAlike (target_of chip 2048) input input'
      → ListedSame chip input input' text

pub record Isolation : Type 0 where
  pub recordings : Recordings
  pub recording_words : replays.Guards
  pub batches : Batches
  pub batch_words : checks.Guards
  -- every cutting of every batch is among those
  pub cutting_words : cuttings.Guards
  pub chip_words : ChipGuards
