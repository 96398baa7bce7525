use Rattle.progress.proofs.Gathers.{picks}
use borrow.Author.Rules.{rules}
use Rattle.progress.proofs.pick.Goals as goal

pub returns-then-j-g : goal.returns-then-j-g
returns-then-j-g c = search (picks, rules)

pub returns : goal.returns
returns c = search (picks, rules)
