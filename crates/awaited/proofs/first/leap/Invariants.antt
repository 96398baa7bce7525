use Rattle.std.proofs.Common.{◌-◌}
use Rattle.awaited.specs.First.{Passed}
use Rattle.awaited.proofs.first.leap.Given as goal

abbrev pub invariant-loop-r : goal.invariant-loop-r
invariant-loop-r g l = Passed (goal.F-post g l.test) l.from l.to l.r

abbrev pub decreases-loop-r : goal.decreases-loop-r
decreases-loop-r g l = l.to - l.r
