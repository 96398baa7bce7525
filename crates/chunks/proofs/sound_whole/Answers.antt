use mathlib.Core.Path.{refl}
use Rattle.chunks.proofs.Turns.{object_judged}
use borrow.Author.Rules.{rules}
use Rattle.chunks.proofs.sound_whole.Goals as goal

pub returns-then-is_ok : goal.returns-then-is_ok
returns-then-is_ok c = λ e. object_judged _ _ _ _ _ _ refl c.total.ensures c.header_verdict.ensures (search rules) c.sound_object.ensures e
