use Rattle.reading.proofs.Steps.{steps_one}
use Rattle.reading.proofs.advance_other.Goals as goal

pub returns : goal.returns
returns g c = let p = c.requires in steps_one _ _ _ p.0 p.2 _ c.advance_as.ensures
