use Rattle.std.proofs.Common.{◌-◌, ◌≤◌}
use Rattle.laws.specs.Find.{NoneBelow}
use Rattle.awaited.specs.Search.{awaited_record, Crossed}
use Rattle.awaited.proofs.over_records.Search.first.Given as goal

abbrev pub invariant-loop-r : goal.invariant-loop-r
invariant-loop-r g l = (l.from ≤ l.r) × NoneBelow (awaited_record (g.T.Element.dwords l.self.records.now) l.self.states.now l.self.candidate) l.r × Crossed (g.T.Element.dwords l.self.records.now) l.self.states.now l.crossed

abbrev pub decreases-loop-r : goal.decreases-loop-r
decreases-loop-r g l = l.self.own - l.r
