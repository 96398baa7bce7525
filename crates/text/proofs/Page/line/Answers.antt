use Rattle.std.proofs.Common.{arith}
use Rattle.text.proofs.Page.line.Goals as goal
use Rattle.text.proofs.Pieces.{known_as}
use Rattle.text.proofs.Numbers.{line_is}

pub returns : goal.returns
returns c = (known_as (line_is c.args.place c.args.kind c.args.total (omega arith)) c.print.ensures.0, omega arith)
