use mathlib.Core.Path.{ap}
use Rattle.progress.specs.declared.Progress.{Progress}
use Rattle.progress.specs.Steps.{after_change}
use Rattle.progress.proofs.hold.Goals as goal

pub returns : goal.returns
unfolding after_change
returns c = ap (λ (p : Progress). record { st = p.st; own = c.args.h; place = p.place; got = c.args.g; stop = p.stop }) c.open.ensures
