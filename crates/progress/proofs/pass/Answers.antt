use Rattle.progress.proofs.Leaves.{place_fits, passed_laws}
use borrow.Author.Rules.{rules}
use Rattle.progress.proofs.pass.Goals as goal

pub overflow_add-at : goal.overflow_add-at
overflow_add-at c = let a = c in let z = place_fits _ _ _ _ _ a.requires.0 a.requires.2 in search rules

pub returns-then-k-eq2 : goal.returns-then-k-eq2
returns-then-k-eq2 c = search passed_laws

pub returns : goal.returns
returns c = search passed_laws
