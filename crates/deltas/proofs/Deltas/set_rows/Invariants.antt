use Rattle.std.proofs.Common.{◌≡◌}
use Rattle.deltas.specs.Reach.{rows_to}
use Rattle.deltas.proofs.Deltas.set_rows.Given as goal

abbrev pub invariant-loop-i : goal.invariant-loop-i
invariant-loop-i l = l.rows ≡ rows_to l.self.mask l.self.d6 l.self.d7 l.i
