use Rattle.chunks.proofs.Turns.{turn_went, turn_end}
use borrow.Author.Rules.{rules}
use Rattle.chunks.proofs.turn.Goals as goal

pub returns-then-a-chunk : goal.returns-then-a-chunk
returns-then-a-chunk c = let a = c in let z = c.if-c-ne0 in turn_went _ _ _ _ a.requires.0 a.requires.1 a.requires.2 (search rules) _ _ _ c.along-a.ensures _ _ _ c.first.ensures

pub returns : goal.returns
returns c = let a = c in turn_end _ _ _ _ a.requires.0 a.requires.1 a.requires.2 (search rules) _ _ _ c.along-a.ensures _ c.open.ensures (search rules)
