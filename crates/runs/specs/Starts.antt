-- A run as the code checks it: what its steps count on, rows 24 and 25 in two steps, and what is carried from one start to the next.
-- `row_start` of proofs/StartRows.antt shows that the steps are the rows. Below, d are the dwords of the record buffer, which holds n
-- records.
use Rattle.std.specs.Prelude.{◌≡◌, ℕ, ◌<◌, ◌≤◌, Bool, cond, ◌&&◌, List, ltb, leb, eqb, length, Result, Ok, Err, IfOk}
use Rattle.laws.specs.Find.{NoneBelow}
use Rattle.objects.specs.declared.Spot.{Spot}
use Rattle.objects.specs.Objects.{Object, object_at}
use Rattle.objects.specs.Recorded.{Records, Numbered, objects_recorded, Spotted}
use Rattle.awaited.specs.Search.{unfinished_at, Crossed}
use Rattle.runs.specs.declared.Fault.{Fault}
use Rattle.runs.specs.declared.Cursors.{Cursors}
use Rattle.runs.specs.Run.{Verdict, state_at, waiting, lowest_waited, lowest_delta, lowest_waiting, fault, no_fault, numbered}

-- row 25
unfoldable pub wait_verdict : List Object → List ℕ → ℕ → Verdict
wait_verdict objects states k = let j = lowest_waited objects states k in cond (ltb j k) (fault 25 j (lowest_delta objects k j)) no_fault

-- rows 24 and 25
unfoldable pub start_verdict : List Object → List ℕ → ℕ → Verdict
start_verdict objects states k =
    let j = lowest_waiting states k in
    let o = object_at objects k in
    cond (o.uses && eqb o.type 0 && ltb j k) (fault 24 j 0) (wait_verdict objects states k)

-- is object j in state 0?
abbrev pub waiting_at : List ℕ → ℕ → Bool
waiting_at states j = waiting (state_at states j)

-- object k is one of those recorded, and each has a state byte
pub record Known (d : List ℕ) (n : ℕ) (states : List ℕ) (k : ℕ) : Type 0 where
  pub records : Records d n
  pub numbered : Numbered d n
  pub object : k < length (objects_recorded d n)
  pub room : length (objects_recorded d n) ≤ length states

-- States only grow, so that a search goes on where the last one stopped: no object below the first cursor is in state 0, every one below
-- the second is finished, the second and third are found in the records, and the stretch crossed last still has no unfinished object's
-- record.
pub record SoundCursors (d : List ℕ) (n : ℕ) (states : List ℕ) (c : Cursors) : Type 0 where
  pub started : NoneBelow (waiting_at states) c.waiting
  pub finished : NoneBelow (unfinished_at states) c.unfinished.object
  pub first : Spotted d n c.unfinished.object c.unfinished.at
  pub latest : Spotted d n c.last.object c.last.at
  pub crossed : Crossed d states c.crossed

-- before the first event
abbrev pub first_cursors : Cursors
first_cursors =
    record {
      waiting = 0;
      unfinished = record { object = 0; at = 0 };
      last = record { object = 0; at = 0 };
      crossed = record { from = 0; to = 0 };
    }

-- where the walk to object k starts
unfoldable pub nearest_of : Cursors → ℕ → Spot
nearest_of c k = cond (leb c.last.object k) c.last c.unfinished

-- the verdict of what the code answers of an event
abbrev pub judged : Result Cursors Fault → Verdict
judged (Ok c) = no_fault
judged (Err f) = numbered f

-- the verdict is v; where that is no fault, the cursors are sound for the next start
pub record Judges (d : List ℕ) (n : ℕ) (states : List ℕ) (v : Verdict) (r : Result Cursors Fault) : Type 0 where
  pub verdict : judged r ≡ v
  pub cursors : IfOk r (SoundCursors d n states)
