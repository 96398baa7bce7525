use Rattle.std.proofs.Common.{rules, tests}
use Rattle.awaited.proofs.Turns.{told}
use Rattle.awaited.proofs.Searched.{past_crossed, cross_on}
use Rattle.awaited.proofs.over_records.Search.cross.Goals as goal

pub returns : goal.returns
returns g c =
    cross_on _ _ _ _ _ _ (past_crossed _ _ _ c.requires _ _ c.past.ensures)
    (told _ _ _ _ _ (λ i h. search (rules, tests)) c.first.ensures.passed)
