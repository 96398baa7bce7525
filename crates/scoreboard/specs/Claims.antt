-- What is claimed of every order check, beside what it is: whom it names, what it leaves, and what its numbers tell apart. Document 01,
-- "Who waits for whom".
use Rattle.std.specs.Prelude.{◌≡◌, true, ◌⊎◌, List, ℕ, ◌/◌, ◌<◌, ◌≤◌, length, get_or, take, set}
use Rattle.chips.specs.declared.Target.{Target}
use Rattle.chips.specs.Chips.{target_of, ByChip}
use Rattle.words.specs.Dwords.{dwords_of, put_le}
use Rattle.reading.specs.Decision as variants
use Rattle.reading.specs.Decision.{Scanned}
use Rattle.reading.specs.Decision.{decision_of, whole_dwords}
use Rattle.records.specs.Records.{recorded}
use Rattle.objects.specs.Objects.{Object}
use Rattle.runs.specs.Run.{state_at, object_of_event, starts, finishes, verdict_of, begun, ran}
use Rattle.runs.specs.Waits.{Stalls, Blocks, Started}
use Rattle.scoreboard.specs.declared.Answer.{Answer}
use Rattle.scoreboard.specs.Answers.{objects_in, refused_answer, Result, refused_result, order_of, bytes_order_of}

-- the numbers of a batch that is turned away: "1 to 10 (or 17) of the batch"
abbrev pub TurnedAway : ℕ → Type 0
TurnedAway n = ((1 ≤ n) × (n ≤ 10)) ⊎ (n ≡ 17)

-- Of a batch and a run for a known chip, with the records and states lent: what the check gives back. `filled` is the record buffer with
-- the batch's records in it, and `decision` what the batch check decides of the batch.
module _ (target : Target) (batch run records states filled : List ℕ) (decision : Scanned) (given : Result (List ℕ)) where
  abbrev pub answer : Answer
  answer = given.answer

  abbrev pub objects : List Object
  objects = objects_in target batch

  -- the states that event n meets: "states begin 0", and each event gets what the one before left
  abbrev pub met : ℕ → List ℕ
  met n = (ran objects (take n run) states).states

  abbrev pub event_at : ℕ → ℕ
  event_at n = get_or run n 0

  -- the event at the answer's place, the object that it starts or finishes, and the states that it meets
  abbrev pub event : ℕ
  event = event_at answer.place

  abbrev pub k : ℕ
  k = object_of_event event

  abbrev pub before : List ℕ
  before = met answer.place

  -- Three sorts of answer, each named once: the claims below speak of them, and `cases` says that there is no fourth. A refusal:
  abbrev pub Refused : Type 0
  Refused = TurnedAway answer.number ⊎ (answer.number ≡ 20)

  -- a run that a bad event stopped
  abbrev pub StoppedRun : Type 0
  StoppedRun = 20 < answer.number

  -- a run that began: taken to its end, or stopped
  abbrev pub Began : Type 0
  Began = (answer.number ≡ 0) ⊎ StoppedRun

  -- what a decision on the batch leads to: its refusal, number and place; else 20, or the run
  abbrev pub LeadsTo : Scanned → Type 0
  LeadsTo (variants.Stopped m p) = (answer ≡ refused_answer m p) × TurnedAway m
  LeadsTo (variants.Ended _ _ _) = (answer.number ≡ 20) ⊎ Began

  pub record Claims : Type 0 where
    -- 25 is the last number
    pub cases : Refused ⊎ Began
    pub last : answer.number ≤ 25
    -- "Refused with 1 to 10 (or 17) of the batch, then 20": as the batch check refuses it, and only then
    pub leads : LeadsTo decision
    -- "Refused with 1 to 10 (or 17) of the batch, then 20 ..: nothing changes"
    pub refused : Refused → (given.records ≡ records) × (given.states ≡ states)
    -- "20 (fewer state bytes than objects; position 0)"
    pub short : answer.number ≡ 20 → (length states < length objects) × (answer.place ≡ 0)
    pub room : Began → length objects ≤ length states
    -- "Else the records are filled"
    pub records_filled : Began → given.records ≡ filled
    -- "the first bad event stops the run": every event before the place passes
    pub passed : Began → (n : ℕ) → n < answer.place → (verdict_of objects (met n) (event_at n)).number ≡ 0
    -- "earlier effects kept"
    pub kept : Began → given.states ≡ before
    -- "A run taken to its end answers 0 and its event count": no refusal and no bad event has the number 0
    pub end : answer.number ≡ 0 → answer.place ≡ length run
    -- ".. stops the run with its position": the event there has the number
    pub bad : StoppedRun → (answer.place < length run) × ((verdict_of objects before event).number ≡ answer.number)
    -- "21 no such object"
    pub unknown : answer.number ≡ 21 → length objects ≤ k
    -- "22 start of one not waiting"
    pub not_waiting : answer.number ≡ 22 → (starts event ≡ true) × (state_at before k ≡ 0 → ⊥)
    -- "23 finish of one not running"
    pub not_running : answer.number ≡ 23 → (finishes event ≡ true) × (state_at before k ≡ 1 → ⊥)
    -- 24 and 25 are of a start
    pub start : 23 < answer.number → starts event ≡ true
    -- "24 it uses a scoreboard of type 0 and an earlier object is in state 0 (names the lowest)"
    pub stalls : answer.number ≡ 24 → Stalls objects before k answer.object
    -- "25 it waits (names the lowest j and the lowest delta at it)"
    pub blocks : answer.number ≡ 25 → Blocks objects before k answer.object answer.delta
    -- 24 and 25 alone name an object, and 25 alone a delta: else they are 0
    pub no_object : answer.number < 24 → answer.object ≡ 0
    pub no_delta : answer.number < 25 → answer.delta ≡ 0
    -- whoever started neither stalled nor waited then
    pub started : Began → (j : ℕ) → j < length objects → (state_at given.states j ≡ 0 → ⊥)
        → Started objects run 0 (begun (length objects) states) j
    -- "State bytes past the objects never change", whatever the answer is
    pub past : (i : ℕ) → length objects ≤ i → get_or given.states i 0 ≡ get_or states i 0
    -- and no state byte is gained or lost
    pub long : length given.states ≡ length states

-- the decision over bytes: 17 of "batch, then run", then as over dwords
abbrev pub bytes_decision : Target → List ℕ → List ℕ → List ℕ → Scanned
bytes_decision target batch run records =
    whole_dwords variants.Stopped batch (whole_dwords variants.Stopped run (decision_of target (length records / 4) (dwords_of batch)))

-- The dword entry, for any number as the chip. 18: "chip neither 6 nor 7, checked before all others"; "changes nothing lent and has place
-- 0". Else, for the chip named, the claims above, in which 18 is no number.
abbrev pub Claimed : ℕ → ℕ → List ℕ → List ℕ → List ℕ → List ℕ → Type 0
Claimed chip capacity batch run records states =
    let given = order_of chip capacity batch run records states in
    ByChip chip (given ≡ refused_result records states 18 0)
    (λ c. let t = target_of c capacity in
    Claims t batch run records states (recorded set t batch records) (decision_of t (length records) batch) given)

-- the byte entry, of the dwords of the batch and of the run
abbrev pub BytesClaimed : ℕ → ℕ → List ℕ → List ℕ → List ℕ → List ℕ → Type 0
BytesClaimed chip capacity batch run records states =
    let given = bytes_order_of chip capacity batch run records states in
    ByChip chip (given ≡ refused_result records states 18 0)
    (λ c. let t = target_of c capacity in
    Claims t (dwords_of batch) (dwords_of run) records states (recorded put_le t (dwords_of batch) records)
    (bytes_decision t batch run records) given)

-- every order check, over dwords and over bytes, whatever is lent
abbrev pub AllClaimed : Type 0
AllClaimed =
    (chip capacity : ℕ) (batch run records states : List ℕ)
    → Claimed chip capacity batch run records states × BytesClaimed chip capacity batch run records states
