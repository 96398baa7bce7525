use Prim.Native.Nat.{◌-◌}
use mathlib.Core.Path.{◌≡◌}
use lib.ListN.{length}
use Rattle.words.specs.Dwords.{lent_buffer}
use Rattle.records.specs.Turns.{records_from, Left}
use Rattle.records.proofs.fill.Given as goal

abbrev pub invariant-loop-next : goal.invariant-loop-next
invariant-loop-next g l =
    let b = g.S.Element.dwords l.source in
    let e = g.B.Element in
    Left b l.at l.st (length (e.dwords l.initial.records))
    × (records_from e.stored b l.at l.st (lent_buffer e.dwords l.records) ≡ records_from e.stored b l.initial.at l.initial.st (lent_buffer e.dwords l.initial.records))

abbrev pub decreases-loop-next : goal.decreases-loop-next
decreases-loop-next g l = length (g.S.Element.dwords l.source) - l.at
