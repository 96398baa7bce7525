use Prim.Native.Nat.{◌≤◌, ◌-◌}
use mathlib.Core.Path.{◌≡◌}
use lib.ListN.{length}
use Rattle.reading.specs.Turns.{scan_from}
use Rattle.reading.proofs.scan.Given as goal

abbrev pub invariant-loop-at : goal.invariant-loop-at
invariant-loop-at g l = (l.at ≤ length (g.T.Element.dwords l.source)) × (l.st.commands ≤ l.at) × (l.st.objects ≤ l.at) × (scan_from (g.T.Element.dwords l.source) l.at l.st ≡ scan_from (g.T.Element.dwords l.source) l.initial.at l.initial.st)

abbrev pub decreases-loop-at : goal.decreases-loop-at
decreases-loop-at g l = length (g.T.Element.dwords l.source) - l.at
