use Rattle.std.proofs.Common.{◌-◌, ◌≤◌}
use Rattle.objects.specs.Recorded.{objects_before}
use Rattle.objects.proofs.walk.Objects.record_of.Given as goal

abbrev pub invariant-loop-k : goal.invariant-loop-k
invariant-loop-k g l = objects_before (g.T.Element.dwords l.self.records.now) l.r ≤ l.k

abbrev pub decreases-loop-k : goal.decreases-loop-k
decreases-loop-k g l = l.self.commands - l.r
