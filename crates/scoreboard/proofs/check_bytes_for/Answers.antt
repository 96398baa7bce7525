use Rattle.scoreboard.proofs.Orders.{bytes_order}
use Rattle.scoreboard.proofs.check_bytes_for.Goals as goal

pub returns : goal.returns
returns c = bytes_order _ _ _ _ _ c.if-batch-ne0.false _ _ _ c.if-run-ne0.false c.check_for.ensures
