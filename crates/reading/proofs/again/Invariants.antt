use Prim.Native.Nat.{◌≤◌, ◌-◌}
use mathlib.Core.Path.{◌≡◌}
use lib.ListN.{length}
use Rattle.reading.specs.Turns.{scan_from}
use Rattle.reading.proofs.again.Given as goal

abbrev pub invariant-loop-h : goal.invariant-loop-h
invariant-loop-h g l = (l.at ≤ length (g.T.Element.dwords l.source))
    × (l.s.commands ≤ l.at)
    × (l.s.objects ≤ l.at)
    × (l.initial.at ≤ l.at)
    × (l.s.chip ≡ l.initial.s.chip)
    × (scan_from (g.T.Element.dwords l.source) l.at l.s ≡ scan_from (g.T.Element.dwords l.source) l.initial.at l.initial.s)

abbrev pub decreases-loop-h : goal.decreases-loop-h
decreases-loop-h g l = length (g.T.Element.dwords l.source) - l.at
