use Prim.Native.Nat.{◌≤◌, ◌-◌}
use mathlib.Core.Path.{◌≡◌}
use lib.ListN.{length}
use Rattle.words.specs.Dwords.{lent_buffer}
use Rattle.records.specs.Turns.{records_from, Left}
use Rattle.records.proofs.again.Given as goal

abbrev pub invariant-loop-h : goal.invariant-loop-h
invariant-loop-h g l =
    let b = g.S.Element.dwords l.source in
    let e = g.B.Element in
    Left b l.at l.s (length (e.dwords l.initial.records))
    × (l.initial.at ≤ l.at)
    × (l.s.chip ≡ l.initial.s.chip)
    × (records_from e.stored b l.at l.s (lent_buffer e.dwords l.records) ≡ records_from e.stored b l.initial.at l.initial.s (lent_buffer e.dwords l.initial.records))

abbrev pub decreases-loop-h : goal.decreases-loop-h
decreases-loop-h g l = length (g.S.Element.dwords l.source) - l.at
