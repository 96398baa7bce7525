use Rattle.scoreboard.proofs.Orders.{dwords_order, known_order}
use Rattle.scoreboard.proofs.check.Goals as goal

pub returns-in-Ok : goal.returns-in-Ok
returns-in-Ok c =
    known_order _ _ _ _ _ _ _ c.try_from.ensures _ c.in-Ok.is _ (dwords_order _ _ _ _ _ _ _ _ (rw c.answered.ensures c.check_for.ensures))
