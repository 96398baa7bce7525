use Rattle.std.proofs.Common.{lit≤}
use Rattle.deltas.specs.Deltas.{delta_of}
use Rattle.deltas.proofs.Nibbles.{by_table}
use Rattle.deltas.proofs.table.delta.Goals as goal

pub returns : goal.returns
unfolding delta_of
returns c = search (by_table, lit≤)
