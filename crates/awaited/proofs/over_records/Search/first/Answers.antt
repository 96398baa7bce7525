use Rattle.std.proofs.Common.{arith}
use Rattle.awaited.proofs.Searched.{block_found, block_crossed, kept_crossed}
use Rattle.awaited.proofs.over_records.Search.first.Goals as goal

pub returns-then-at-end : goal.returns-then-at-end
returns-then-at-end g c = record { first = block_found _ _ _ _ _ c.first_awaited-at.ensures _ c.if-at-end.true c.block_end-end.ensures.within; crossed = c.loop-r.invariant.2 }

pub loop-r-preserved : goal.loop-r-preserved
loop-r-preserved g c =
    let k = c.cross-r.ensures in
    (omega (arith, k.forward), block_crossed _ _ _ _ _ c.first_awaited-at.ensures _ c.if-at-end.false k, kept_crossed _ _ _ c.loop-r.invariant.2 _ _ _ c.kept-crossed.ensures k)
