use Prim.Native.Nat.{◌-◌, ◌≤◌}
use lib.ListN.{length}
use Rattle.chunks.specs.Turns.{Objects}
use Rattle.chunks.proofs.sound_objects.Given as goal

abbrev pub invariant-loop-st : goal.invariant-loop-st
invariant-loop-st l = (l.i ≤ length l.chunk) × Objects l.chunk l.st l.t l.d l.from l.i

abbrev pub decreases-loop-st : goal.decreases-loop-st
decreases-loop-st l = length l.chunk - l.i
