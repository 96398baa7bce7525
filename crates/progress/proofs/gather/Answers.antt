use Rattle.std.proofs.Common.{rules}
use Rattle.progress.proofs.Gathers.{made_gathered}
use Rattle.progress.proofs.gather.Goals as goal

pub returns : goal.returns
returns c = let g = c.well_formed in made_gathered _ _ _ _ _ _ (λ i y q k. search rules) (search rules) _ c.from_fn.ensures.items
