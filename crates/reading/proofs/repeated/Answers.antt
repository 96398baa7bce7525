use Rattle.std.proofs.Common.{arith}
use Rattle.reading.proofs.Steps.{stands_under, stands_as}
use Rattle.reading.proofs.repeated.Goals as goal

pub returns-then-t-held : goal.returns-then-t-held
returns-then-t-held g c = search (stands_as, arith)

pub returns-else-t-held : goal.returns-else-t-held
returns-else-t-held g c = search (stands_under, arith)
