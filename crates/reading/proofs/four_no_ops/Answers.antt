use mathlib.Core.Path.{refl}
use Rattle.reading.proofs.NoOps.{four_there}
use borrow.Author.Rules.{rules}
use Rattle.reading.proofs.four_no_ops.Goals as goal

pub returns : goal.returns
returns g c = λ e. four_there _ _ _ _ _ _ _ _ c.held.ensures (search rules) c.word.ensures c.word-2.ensures c.word-3.ensures c.word-4.ensures refl e
