use mathlib.Core.Path.{ap}
use Rattle.progress.specs.Steps.{after_change}
use Rattle.progress.specs.declared.Progress.{Progress}
use Rattle.progress.proofs.Leaves.{stop_with}
use Rattle.progress.proofs.halt.Goals as goal

pub returns : goal.returns
unfolding after_change
returns c = ap (λ (x : Progress). stop_with x c.args.number) c.open.ensures
