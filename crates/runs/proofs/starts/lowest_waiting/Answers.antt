use Rattle.std.proofs.Common.{rules, tests}
use Rattle.awaited.proofs.Turns.{first_off, first_is}
use Rattle.runs.proofs.starts.lowest_waiting.Goals as goal

pub returns : goal.returns
unfolding Rattle.runs.specs.Run.lowest_waiting
returns c =
    let p = c.requires in
    (first_off _ _ _ _ _ (λ j t h. search (rules, tests)) p.1 c.first.ensures, first_is _ _ _ _ _ (λ j t h. search (rules, tests)) p.1 c.first.ensures)
