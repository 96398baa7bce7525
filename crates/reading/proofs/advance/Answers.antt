use Rattle.reading.proofs.Steps.{steps_one}
use Rattle.reading.proofs.advance.Goals as goal

pub returns-then-k-eq3 : goal.returns-then-k-eq3
returns-then-k-eq3 g c = let p = c.requires in steps_one _ _ _ p.0 p.2 _ c.advance_as.ensures

pub returns-then-k-eq2 : goal.returns-then-k-eq2
returns-then-k-eq2 g c = let p = c.requires in steps_one _ _ _ p.0 p.2 _ c.advance_as-then-k-eq2.ensures

pub returns-then-k-eq1 : goal.returns-then-k-eq1
returns-then-k-eq1 g c = let p = c.requires in steps_one _ _ _ p.0 p.2 _ c.advance_as-then-k-eq1.ensures
