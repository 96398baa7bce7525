use mathlib.Core.Path.{◌≡◌}
use Prim.Native.Nat.{◌-◌}
use lib.ListN.{length}
use Rattle.progress.specs.Steps.{between}
use Rattle.chunks.specs.Turns.{Kept}
use Rattle.chunks.proofs.no_ops.Given as goal

abbrev pub invariant-loop-h : goal.invariant-loop-h
invariant-loop-h l = Kept l.chunk (between l.initial.st l.initial.at) l.initial.i l.initial.records (between l.st l.at) l.i l.records × (length l.records ≡ length l.initial.records)
    × (l.i ≡ l.initial.i → l.records ≡ l.initial.records)

abbrev pub decreases-loop-h : goal.decreases-loop-h
decreases-loop-h l = length l.chunk - l.i
