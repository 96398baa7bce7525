use mathlib.Core.Path.{refl}
use Rattle.laws.specs.BitRanges.{field}
use Rattle.command.specs.Order.{state_of, stands_since, count_loaded, state_in_force, vfe_in_force, object_count}
use Rattle.command.proofs.states.start.Goals as goal

pub returns : goal.returns
unfolding field state_of stands_since count_loaded state_in_force vfe_in_force object_count
returns c = refl
