use mathlib.Core.Path.{sym, ap, ◌∙◌}
use Rattle.command.specs.Kinds.{own_dwords}
use Rattle.chunks.proofs.Turns.{six_own, gathered_as}
use Rattle.chunks.proofs.cut.Goals as goal

pub returns-then-k-eq7 : goal.returns-then-k-eq7
returns-then-k-eq7 c = gathered_as _ _ _ _ _ _ c.gather.ensures (six_own ∙ ap own_dwords (sym c.if-k-eq7.true))
