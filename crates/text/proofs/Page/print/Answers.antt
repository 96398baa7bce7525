use Rattle.std.proofs.Common.{arith}
use Rattle.text.proofs.Pieces.{then}
use Rattle.text.proofs.Page.print.Goals as goal

pub returns : goal.returns
returns c = (then (omega arith) (then (omega arith) (then (omega arith) (then (omega arith) c.put.ensures c.number.ensures.0) c.put-2.ensures) c.number-2.ensures.0) c.put-3.ensures, omega arith)
