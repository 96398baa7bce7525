use Rattle.command.specs.Order.{state_after}
use Rattle.command.proofs.states.after_vfe.Goals as goal

pub returns : goal.returns
unfolding state_after
returns c = simp c.with_media-standing.ensures
