use Rattle.record.specs.Record.{record_of}
use Rattle.laws.proofs.BitRanges.{coded}
use Rattle.record.proofs.object.Goals as goal

pub returns : goal.returns
unfolding record_of
returns c = simp (coded, ← c.inline_count-inline.ensures)
