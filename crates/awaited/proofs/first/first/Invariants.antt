use Rattle.awaited.specs.First.{AllFail}
use Rattle.awaited.proofs.first.first.Given as goal

abbrev pub invariant-loop-r : goal.invariant-loop-r
invariant-loop-r g l = AllFail (goal.F-post g l.test) l.from l.r
