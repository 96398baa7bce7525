-- Demand 3, batches: the batch check answers alike two batches that differ only in inline data; and the guards of its words. Assumes nothing.
use mathlib.Core.Path.{◌≡◌}
use mathlib.Core.List.{List}
use Prim.Native.Nat.{ℕ}
use lib.ListN.{length}
use Rattle.chips.specs.Chips.{target_of, ForChip}
use Rattle.words.specs.Dwords.{dwords_of}
use Rattle.reading.specs.Reading.{reading_of}
use Rattle.reading.specs.Isolation.{Alike, BytesAlike}
use Rattle.reading.proofs.EndToEnd.{reading_laid, laid_reading}
use Rattle.reading.proofs.Isolation.{alike_reading, bytes_alike, inline_alike, inline_bytes_alike}
use Rattle.batch.specs.Answers.{answer_of, records_of, bytes_answer_of, bytes_records_of}
use Rattle.batch.specs.Isolation.{Guards}
use Rattle.batch.proofs.Claimed.{same_answers, same_bytes}

-- LAW: one answer, and one record buffer at exit
module _ (chip capacity : ℕ) (b b' : List ℕ) (h : ForChip chip (λ c. Alike (target_of c capacity) b b')) (r : List ℕ) where
  one_reading : ForChip chip (λ c. (length b ≡ length b') × (reading_of (target_of c capacity) b ≡ reading_of (target_of c capacity) b'))
  one_reading c n = ((h c n).size, alike_reading (target_of c capacity) b b' (h c n))

  pub alike_answer : answer_of chip capacity b r ≡ answer_of chip capacity b' r
  alike_answer = (same_answers chip capacity b' r b one_reading).0

  pub alike_records : records_of chip capacity b r ≡ records_of chip capacity b' r
  alike_records = (same_answers chip capacity b' r b one_reading).1

-- the same over bytes
module _ (chip capacity : ℕ) (b b' : List ℕ) (h : ForChip chip (λ c. BytesAlike (target_of c capacity) b b')) (r : List ℕ) where
  bytes_reading : ForChip chip (λ c. (length b ≡ length b') × (reading_of (target_of c capacity) (dwords_of b) ≡ reading_of (target_of c capacity) (dwords_of b')))
  bytes_reading c n = ((h c n).size, alike_reading (target_of c capacity) (dwords_of b) (dwords_of b') (bytes_alike (target_of c capacity) b b' (h c n)))

  pub alike_bytes_answer : bytes_answer_of chip capacity b r ≡ bytes_answer_of chip capacity b' r
  alike_bytes_answer = (same_bytes chip capacity b' r b bytes_reading).0

  pub alike_bytes_records : bytes_records_of chip capacity b r ≡ bytes_records_of chip capacity b' r
  alike_bytes_records = (same_bytes chip capacity b' r b bytes_reading).1

-- THEOREM: the words are as wide as the paper's
pub guards : Guards
guards = record { passed = reading_laid; only = laid_reading; inline = inline_alike; inline_bytes = inline_bytes_alike }
