-- Demand 3 holds. Each deciding fact, each half's induction and its guards are laws in the crate of their definition. Assumes nothing.
use mathlib.Core.Path.{subst}
use mathlib.Core.List.{List}
use Prim.Native.Nat.{ℕ}
use Rattle.chips.specs.declared.Chip.{Chip}
use Rattle.chips.specs.Chips.{number_of, target_of, Unnamed, ForChip}
use Rattle.chips.proofs.Chips.{same_number}
use Rattle.words.specs.Dwords.{dwords_of}
use Rattle.reading.specs.Isolation.{Alike, BytesAlike}
use Rattle.reading.proofs.Isolation.{alike_reading, bytes_alike}
use Rattle.batch.proofs.Isolation as batch
use Rattle.feed.proofs.Chunked.{chunked, same_cut}
use Rattle.scoreboard.proofs.Isolation.{alike_order, alike_bytes_order}
use Rattle.replay_claims.proofs.Isolation.{isolated}
use Rattle.replay_claims.proofs.Guards as recording
use Rattle.listing.proofs.Isolation.{alike_text, alike_buffer}
use Rattle.isolation.specs.Isolation.{Same, BytesSame, AlikeFor, BytesAlikeFor, Isolation}

same : (chip capacity : ℕ) (b b' run r states : List ℕ) → AlikeFor chip capacity b b' → Same chip capacity b b' run r states
same chip capacity b b' run r states h =
    record {
      passed = λ c n. alike_reading (target_of c capacity) b b' (h c n);
      answer = batch.alike_answer chip capacity b b' h r;
      records = batch.alike_records chip capacity b b' h r;
      order = alike_order chip capacity b b' run r states h;
    }

bytes_same : (chip capacity : ℕ) (b b' run r states : List ℕ) → BytesAlikeFor chip capacity b b' → BytesSame chip capacity b b' run r states
bytes_same chip capacity b b' run r states h =
    record {
      passed = λ c n. alike_reading (target_of c capacity) (dwords_of b) (dwords_of b') (bytes_alike (target_of c capacity) b b' (h c n));
      answer = batch.alike_bytes_answer chip capacity b b' h r;
      records = batch.alike_bytes_records chip capacity b b' h r;
      order = alike_bytes_order chip capacity b b' run r states h;
    }

-- what holds of a chip is all that is asked for its number, and nothing is asked for a number of none
for_named : (P : Chip → Type 0) (c : Chip) → P c → ForChip (number_of c) P
for_named P c h c' e = subst P (same_number c c' e) h

for_none : (P : Chip → Type 0) (n : ℕ) → Unnamed n → ForChip n P
for_none P n u c e = absurd (u c e)

-- THEOREM: demand 3
pub isolation : Isolation
isolation =
    record {
      recordings = isolated;
      recording_words = recording.guards;
      batches =
          record {
            dwords = same;
            bytes = bytes_same;
            chunks = same_cut;
            listing = λ chip input input' text h. record { bytes = alike_text chip input input' h; buffer = alike_buffer chip input input' h text };
          };
      batch_words = batch.guards;
      cutting_words = chunked.guards;
      chip_words =
          record {
            named = λ c capacity b b' h. for_named (λ x. Alike (target_of x capacity) b b') c h;
            unnamed = λ n capacity b b' u. for_none (λ x. Alike (target_of x capacity) b b') n u;
            named_bytes = λ c capacity b b' h. for_named (λ x. BytesAlike (target_of x capacity) b b') c h;
            unnamed_bytes = λ n capacity b b' u. for_none (λ x. BytesAlike (target_of x capacity) b b') n u;
          };
    }
