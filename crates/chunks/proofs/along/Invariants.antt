use mathlib.Core.Path.{◌≡◌}
use Prim.Native.Nat.{◌-◌}
use lib.ListN.{length}
use Rattle.progress.specs.Steps.{between}
use Rattle.chunks.specs.Turns.{Kept}
use Rattle.chunks.proofs.along.Given as goal

abbrev pub invariant-loop-next : goal.invariant-loop-next
invariant-loop-next l = Kept l.chunk (between l.initial.here.st l.initial.here.at) l.initial.here.next l.initial.records (between l.here.st l.here.at) l.here.next l.records × (length l.records ≡ length l.initial.records)

abbrev pub decreases-loop-next : goal.decreases-loop-next
decreases-loop-next l = length l.chunk - l.here.next
