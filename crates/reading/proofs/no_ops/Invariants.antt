use mathlib.Core.Path.{◌≡◌}
use Prim.Native.Nat.{◌-◌, ◌≤◌}
use lib.ListN.{length}
use Rattle.reading.specs.Turns.{scan_from, Within}
use Rattle.reading.proofs.no_ops.Given as goal

abbrev pub invariant-loop-at : goal.invariant-loop-at
invariant-loop-at g l = Within (g.T.Element.dwords l.source) l.at l.s × (l.initial.at ≤ l.at) × (scan_from (g.T.Element.dwords l.source) l.at l.s ≡ scan_from (g.T.Element.dwords l.source) l.initial.at l.initial.s)

abbrev pub decreases-loop-at : goal.decreases-loop-at
decreases-loop-at g l = length (g.T.Element.dwords l.source) - l.at
