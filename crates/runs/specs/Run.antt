-- Who waits for whom, and a run: document 01, "Who waits for whom". An object and its state are found by the object's number.
use Rattle.std.specs.Prelude.{ℕ, ◌+◌, ◌/◌, ◌%◌, min, Bool, false, not, cond, ◌&&◌, ◌||◌, List, [], ◌∷◌, ◌++◌, ltb, leb, eqb, length, get_or, set, drop, replicate, Result, Ok, Err}
use Rattle.laws.specs.Rows.{Row, row, first_row}
use Rattle.laws.specs.Find.{find_first}
use Rattle.objects.specs.Objects.{Delta, Object, meets, object_at}
use Rattle.runs.specs.declared.Fault.{Fault}
use Rattle.runs.specs.declared.Fault.TheVariants.{NoObject, NotWaiting, NotRunning, Stalls, Waits}
use Rattle.runs.specs.declared.Stopped.{Stopped}

-- "states begin 0 (waiting; 1 running, 2 finished)"
abbrev pub waiting : ℕ → Bool
waiting s = eqb s 0

abbrev pub running : ℕ → Bool
running s = eqb s 1

abbrev pub unfinished : ℕ → Bool
unfinished s = not (eqb s 2)

abbrev pub state_at : List ℕ → ℕ → ℕ
state_at states k = get_or states k 0

-- does a test hold for one of the deltas?
abbrev pub some_of : (Delta → Bool) → List Delta → Bool
some_of f [] = false
some_of f (d ∷ ds) = f d || some_of f ds

-- the lowest of those for which it holds, 8 where there is none
abbrev pub lowest_of : (Delta → Bool) → List Delta → ℕ
lowest_of f [] = 8
lowest_of f (d ∷ ds) = cond (f d) (min d.index (lowest_of f ds)) (lowest_of f ds)

-- "Object k waits for object j when j < k, j is unfinished and uses a scoreboard, colours agree, and j's X and Y equal k's plus a delta in
-- play, as whole numbers."
unfoldable pub waits_for : List Object → List ℕ → ℕ → ℕ → Bool
waits_for objects states k j =
    ltb j k
    && unfinished (state_at states j)
    && (object_at objects j).uses
    && eqb (object_at objects j).colour (object_at objects k).colour
    && some_of (meets (object_at objects k) (object_at objects j)) (object_at objects k).in_play

-- "the lowest j", and k where it waits for none
unfoldable pub lowest_waited : List Object → List ℕ → ℕ → ℕ
lowest_waited objects states k = find_first k (waits_for objects states k)

-- "the lowest delta at it"
unfoldable pub lowest_delta : List Object → ℕ → ℕ → ℕ
lowest_delta objects k j = lowest_of (meets (object_at objects k) (object_at objects j)) (object_at objects k).in_play

-- "an earlier object is in state 0 (names the lowest)", and k where none is
unfoldable pub lowest_waiting : List ℕ → ℕ → ℕ
lowest_waiting states k = find_first k (λ j. waiting (state_at states j))

-- "2k starts object k, 2k + 1 finishes it"
abbrev pub object_of_event : ℕ → ℕ
object_of_event e = e / 2

abbrev pub starts : ℕ → Bool
starts e = eqb (e % 2) 0

abbrev pub finishes : ℕ → Bool
finishes e = eqb (e % 2) 1

-- what is wrong with an event: the number, and the object and the delta that it names, 0 where it names none
pub record Verdict : Type 0 where
  pub number : ℕ
  pub object : ℕ
  pub delta : ℕ

abbrev pub fault : ℕ → ℕ → ℕ → Verdict
fault n j d = record { number = n; object = j; delta = d }

abbrev pub no_fault : Verdict
no_fault = fault 0 0 0

-- the number of each of the code's faults, and what it names
abbrev pub numbered : Fault → Verdict
numbered NoObject = fault 21 0 0
numbered NotWaiting = fault 22 0 0
numbered NotRunning = fault 23 0 0
numbered (Stalls j) = fault 24 j 0
numbered (Waits j d) = fault 25 j d

-- The rows of an event e, which starts or finishes the object k; the first that holds decides.
module _ (objects : List Object) (states : List ℕ) (e : ℕ) where
  abbrev k : ℕ
  k = object_of_event e

  abbrev o : Object
  o = object_at objects k

  abbrev pub rows : List (Row Verdict)
  rows =
      -- "21 no such object"
      row (fault 21 0 0) (leb (length objects) k)
      -- "22 start of one not waiting"
      ∷ row (fault 22 0 0) (starts e && not (waiting (state_at states k)))
      -- "23 finish of one not running"
      ∷ row (fault 23 0 0) (finishes e && not (running (state_at states k)))
      -- "24 it uses a scoreboard of type 0 and an earlier object is in state 0 (names the lowest)"
      ∷ row (fault 24 (lowest_waiting states k) 0) (starts e && o.uses && eqb o.type 0 && ltb (lowest_waiting states k) k)
      -- "25 it waits (names the lowest j and the lowest delta at it)"
      ∷ row (fault 25 (lowest_waited objects states k) (lowest_delta objects k (lowest_waited objects states k)))
      (starts e && ltb (lowest_waited objects states k) k)
      ∷ []

  unfoldable pub verdict_of : Verdict
  verdict_of = first_row no_fault rows

-- what an event with no fault does: a start leaves 1, running, and a finish 2, finished
abbrev pub state_left : ℕ → ℕ
state_left e = cond (starts e) 1 2

unfoldable pub after : List ℕ → ℕ → List ℕ
after states e = set states (object_of_event e) (state_left e)

-- what a run ends with
pub record Ran : Type 0 where
  pub verdict : Verdict
  pub position : ℕ
  pub states : List ℕ

-- "the first bad event stops the run with its position, earlier effects kept"; "A run taken to its end answers 0 and its event count." The
-- events from the position i on.
unfoldable pub run_from : List Object → List ℕ → ℕ → List ℕ → Ran
run_from objects [] i states = record { verdict = no_fault; position = i; states = states }
run_from objects (e ∷ es) i states =
    cond (eqb (verdict_of objects states e).number 0)
    (run_from objects es (i + 1) (after states e))
    (record { verdict = verdict_of objects states e; position = i; states = states })

-- what the code answers of a run, and the states that it leaves
abbrev pub ended : Result ℕ Stopped → List ℕ → Ran
ended (Ok n) states = record { verdict = no_fault; position = n; states = states }
ended (Err e) states = record { verdict = numbered e.fault; position = e.position; states = states }

-- "states begin 0"; "State bytes past the objects never change": there are n objects
unfoldable pub begun : ℕ → List ℕ → List ℕ
begun n states = replicate n 0 ++ drop n states

abbrev pub ran : List Object → List ℕ → List ℕ → Ran
ran objects events states = run_from objects events 0 (begun (length objects) states)
