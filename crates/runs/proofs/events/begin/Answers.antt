use Rattle.std.proofs.Common.{rules}
use Rattle.runs.proofs.RunTurns.{begun_filled}
use Rattle.runs.proofs.events.begin.Goals as goal

pub returns : goal.returns
returns c = begun_filled _ _ _ _ (c.fill.ensures.after (λ y h. search rules)) (search rules)
