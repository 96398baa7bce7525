use Rattle.chunks.proofs.Turns.{own_there, settled_same, whole_went, begun_laws}
use borrow.Author.Rules.{rules}
use Rattle.chunks.proofs.begun.Goals as goal

pub returns-then-n-t : goal.returns-then-n-t
returns-then-n-t c = search begun_laws

pub own_dwords-h-requires : goal.own_dwords-h-requires
own_dwords-h-requires c = (search own_there, search rules, c.requires.2.first)

pub returns : goal.returns
returns c = let a = c in whole_went _ _ _ _ _ a.requires.0 a.requires.1 _ a.requires.2.first _ a.requires.2.kind a.requires.2.allowed _ c.total-t.ensures (let i = c.if-n-t in search rules) _ c.own_dwords-h.ensures _ _ (settled_same _ _ c.same_state.ensures _ _ _ _ _ _ _ c.same_dwords.ensures c.same.ensures c.settle.ensures)
