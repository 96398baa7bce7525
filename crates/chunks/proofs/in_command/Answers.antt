use mathlib.Core.Path.{refl}
use Rattle.chunks.proofs.Turns.{got_small, more_went, last_went, settled_same}
use borrow.Author.Rules.{rules}
use Rattle.chunks.proofs.in_command.Goals as goal

pub returns-then-n-left : goal.returns-then-n-left
returns-then-n-left c = let a = c in let g = got_small _ _ _ a.requires.0 a.requires.2 in let p = a.requires.1 in let f = a.requires.0.few in more_went _ _ _ _ a.requires.0 a.requires.1 a.requires.2 a.requires.3 _ _ _ _ _ refl c.kind-k.ensures c.total-t.ensures c.own_count-most.ensures.0 c.left_of-left.ensures _ _ _ refl (search rules) c.gather-h.ensures c.hold.ensures

pub returns : goal.returns
returns c = let a = c in last_went _ _ _ _ a.requires.0 a.requires.1 a.requires.2 a.requires.3 _ _ _ _ _ refl c.kind-k.ensures c.total-t.ensures c.own_count-most.ensures.0 c.left_of-left.ensures _ _ _ (let i = c.if-n-left in search rules) c.gather-h-2.ensures (settled_same _ _ c.same_state.ensures _ _ _ _ _ _ _ c.same_dwords.ensures c.same.ensures c.settle.ensures)
