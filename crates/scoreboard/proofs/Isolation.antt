-- Demand 3, batches: the order check gives back the same for two batches that differ only in inline data. Assumes nothing.
use mathlib.Core.Path.{◌≡◌, ap}
use mathlib.Core.Bool.{cond}
use mathlib.Core.List.{List}
use Prim.Native.Nat.{ℕ, ◌/◌}
use lib.Dec.{ltb}
use lib.ListN.{length, set}
use Rattle.chips.specs.declared.Target.{Target}
use Rattle.chips.specs.Chips as chips
use Rattle.chips.specs.Chips.{ForChip}
use Rattle.chips.proofs.Chips.{same_chip}
use Rattle.words.specs.Dwords.{dwords_of, put_le}
use Rattle.reading.specs.Reading.{Reading}
use Rattle.records.specs.Records.{written}
use Rattle.reading.specs.Isolation.{Alike, BytesAlike}
use Rattle.reading.specs.Decision.{whole_dwords}
use Rattle.reading.proofs.Decided.{whole_same}
use Rattle.reading.proofs.Same.{same_decision}
use Rattle.reading.proofs.Isolation.{alike_reading, bytes_alike}
use Rattle.objects.specs.Objects.{Object, objects_of}
use Rattle.runs.specs.Run.{ran}
use Rattle.scoreboard.specs.Answers.{ran_answer, Result, refused_result, order_in, order_for, bytes_order_for, order_of, bytes_order_of}

-- what an accepted batch gives goes by its reading
module _ {B : Type 0} (put : B → ℕ → ℕ → B) (target : Target) (room : ℕ) (b b' run : List ℕ) (r : B) (states : List ℕ) (h : Alike target b b') where
  abbrev objects : Reading → List Object
  objects x = objects_of x.passed x.passed

  abbrev accepted : Reading → ℕ → ℕ → Result B
  accepted x commands dwords =
      let e = ran (objects x) run states in
      cond (ltb (length states) (length (objects x))) (refused_result r states 20 0)
      (record { answer = ran_answer e.verdict e.position; records = written put x.passed 0 r; states = e.states })

  alike_in : order_in put target room b run r states ≡ order_in put target room b' run r states
  unfolding order_in
  alike_in = same_decision (refused_result r states) accepted target room b b' h.size (alike_reading target b b' h)

for_order : (target : Target) (b b' run r states : List ℕ) → Alike target b b' → order_for target b run r states ≡ order_for target b' run r states
unfolding order_for
for_order target b b' run r states h = alike_in set target (length r) b b' run r states h

for_bytes_order : (target : Target) (b b' run r states : List ℕ) → BytesAlike target b b' → bytes_order_for target b run r states ≡ bytes_order_for target b' run r states
unfolding bytes_order_for
for_bytes_order target b b' run r states h =
    let refused = refused_result r states in
    whole_same refused b b' _ _ h.size
    (ap (whole_dwords refused run) (alike_in put_le target (length r / 4) (dwords_of b) (dwords_of b') (dwords_of run) r states (bytes_alike target b b' h)))

-- LAW: one answer, one record buffer and the same state bytes at exit
pub alike_order : (chip capacity : ℕ) (b b' run r states : List ℕ) → ForChip chip (λ c. Alike (chips.target_of c capacity) b b')
    → order_of chip capacity b run r states ≡ order_of chip capacity b' run r states
unfolding order_of
alike_order chip capacity b b' run r states h =
    same_chip (refused_result r states) (λ c. order_for (chips.target_of c capacity) b run r states) (λ c. order_for (chips.target_of c capacity) b' run r states) chip
    (λ c n. for_order (chips.target_of c capacity) b b' run r states (h c n))

-- the same over bytes
pub alike_bytes_order : (chip capacity : ℕ) (b b' run r states : List ℕ) → ForChip chip (λ c. BytesAlike (chips.target_of c capacity) b b')
    → bytes_order_of chip capacity b run r states ≡ bytes_order_of chip capacity b' run r states
unfolding bytes_order_of
alike_bytes_order chip capacity b b' run r states h =
    same_chip (refused_result r states) (λ c. bytes_order_for (chips.target_of c capacity) b run r states) (λ c. bytes_order_for (chips.target_of c capacity) b' run r states) chip
    (λ c n. for_bytes_order (chips.target_of c capacity) b b' run r states (h c n))
