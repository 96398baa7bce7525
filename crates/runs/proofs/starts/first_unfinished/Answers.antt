use Rattle.std.proofs.Common.{rules, tests}
use Rattle.awaited.proofs.Turns.{first_exact}
use Rattle.runs.proofs.starts.first_unfinished.Goals as goal

pub returns : goal.returns
returns c =
    let p = c.requires in
    first_exact _ _ _ _ _ (λ j t h. search (rules, tests)) p.2 c.first.ensures p.1
