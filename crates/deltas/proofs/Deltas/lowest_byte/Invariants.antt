use Rattle.laws.specs.Find.{NoneBelow}
use Rattle.deltas.specs.Lowest.{is_byte}
use Rattle.deltas.proofs.Deltas.lowest_byte.Given as goal

abbrev pub invariant-loop-i : goal.invariant-loop-i
invariant-loop-i l = NoneBelow (is_byte l.self.mask l.self.d6 l.self.d7 l.byte) l.i
