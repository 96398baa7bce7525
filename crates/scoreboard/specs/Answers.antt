-- What the order check answers, and what it leaves in the lent record buffer and state bytes: document 01, "Who waits for whom".
use Rattle.std.specs.Prelude.{ℕ, ◌/◌, cond, List, ltb, length, set}
use Rattle.chips.specs.declared.Target.{Target}
use Rattle.chips.specs.Chips.{target_of, on_chip}
use Rattle.words.specs.Dwords.{dwords_of, put_le, Buffer, put_in}
use Rattle.reading.specs.Reading.{reading_of}
use Rattle.reading.specs.Decision.{decided, whole_dwords}
use Rattle.records.specs.Records.{recorded}
use Rattle.objects.specs.Objects.{Object, objects_of}
use Rattle.std.specs.Prelude as prelude
use Rattle.chips.specs.Refusals.{number_of_refusal}
use Rattle.runs.specs.Run.{Verdict, no_fault, numbered, ran}
use Rattle.scoreboard.specs.declared.Answer.{Answer}
use Rattle.scoreboard.specs.declared.Failure.{Failure}
use Rattle.scoreboard.specs.declared.Failure.TheVariants.{Refused, FewStates, Stopped}

-- the objects of a batch, for a chip and a capacity in rows
abbrev pub objects_in : Target → List ℕ → List Object
objects_in target b = let cs = (reading_of target b).passed in objects_of cs cs

-- "An answer is every number returned." Object and delta are 0 where the number names none.
abbrev pub refused_answer : ℕ → ℕ → Answer
refused_answer number place = record { number = number; place = place; object = 0; delta = 0 }

-- "A run taken to its end answers 0 and its event count"; "the first bad event stops the run with its position"
abbrev pub ran_answer : Verdict → ℕ → Answer
ran_answer v position = record { number = v.number; place = position; object = v.object; delta = v.delta }

-- what the code finds, as an answer
abbrev pub failure_answer : Failure → Answer
failure_answer (Refused r) = refused_answer (number_of_refusal r.refusal) r.place
failure_answer FewStates = refused_answer 20 0
failure_answer (Stopped s) = ran_answer (numbered s.fault) s.position

abbrev pub answer_of : prelude.Result ℕ Failure → Answer
answer_of (prelude.Ok events) = ran_answer no_fault events
answer_of (prelude.Err f) = failure_answer f

-- What the check gives back: its answer, and the record buffer and the state bytes at exit.
pub record Result (B : Type 0) : Type 0 where
  pub answer : Answer
  pub records : B
  pub states : List ℕ

-- "Refused with 1 to 10 (or 17) of the batch, then 20 ..: nothing changes"
abbrev pub refused_result : {B : Type 0} → B → List ℕ → ℕ → ℕ → Result B
refused_result r states number place = record { answer = refused_answer number place; records = r; states = states }

-- The check for a known chip, given what the batch is judged for, the batch b, the run, the record buffer r, with room for so many words,
-- and the state bytes. `put` stores a word of the record buffer.
module _ {B : Type 0} (put : B → ℕ → ℕ → B) (target : Target) (room : ℕ) (b run : List ℕ) (r : B) (states : List ℕ) where
  -- "Else the records are filled", and the run goes on to its end or to "the first bad event", "earlier effects kept"
  abbrev pub ran_result : Result B
  ran_result =
      let x = ran (objects_in target b) run states in
      record { answer = ran_answer x.verdict x.position; records = recorded put target b r; states = x.states }

  -- "then 20 (fewer state bytes than objects; position 0)"
  abbrev pub accepted_result : Result B
  accepted_result = cond (ltb (length states) (length (objects_in target b))) (refused_result r states 20 0) ran_result

  -- "Refused with 1 to 10 .. of the batch, then 20"
  unfoldable pub order_in : Result B
  order_in = decided (refused_result r states) (λ commands dwords. accepted_result) target room b

-- a lent record buffer of dwords or of bytes, by how its slice is stored to
abbrev pub buffer_order_of : {E : Type 0} → (List E → ℕ → ℕ → List E) → Target → List ℕ → List ℕ → Buffer E → List ℕ → Result (Buffer E)
buffer_order_of stored target b run r states = order_in (put_in stored) target (length r.view) b run r states

-- the dword entry
unfoldable pub order_for : Target → List ℕ → List ℕ → List ℕ → List ℕ → Result (List ℕ)
order_for target b run r states = order_in set target (length r) b run r states

-- the byte entry: 17 of "batch, then run"; "Records there take 64 bytes each"
unfoldable pub bytes_order_for : Target → List ℕ → List ℕ → List ℕ → List ℕ → Result (List ℕ)
bytes_order_for target b run r states =
    whole_dwords (refused_result r states) b
    (whole_dwords (refused_result r states) run
    (order_in put_le target (length r / 4) (dwords_of b) (dwords_of run) r states))

-- The entries, for any number as the chip: 18 before all else, and nothing lent changes.
unfoldable pub order_of : ℕ → ℕ → List ℕ → List ℕ → List ℕ → List ℕ → Result (List ℕ)
order_of chip capacity b run r states = on_chip (refused_result r states) (λ c. order_for (target_of c capacity) b run r states) chip

unfoldable pub bytes_order_of : ℕ → ℕ → List ℕ → List ℕ → List ℕ → List ℕ → Result (List ℕ)
bytes_order_of chip capacity b run r states = on_chip (refused_result r states) (λ c. bytes_order_for (target_of c capacity) b run r states) chip
