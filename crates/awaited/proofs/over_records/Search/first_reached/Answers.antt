use Rattle.std.proofs.Common.{rules, tests}
use Rattle.awaited.proofs.Turns.{told, passed_on}
use Rattle.awaited.proofs.over_records.Search.first_reached.Goals as goal

pub returns : goal.returns
returns g c =
    passed_on _ _ _ _ _ (told _ _ _ _ _ (λ i h. search (rules, tests)) c.leap-r.ensures)
    (told _ _ _ _ _ (λ i h. search (rules, tests)) c.first.ensures.passed)
