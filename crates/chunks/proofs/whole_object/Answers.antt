use mathlib.Core.Path.{refl}
use native.Mathlib.Omega.{arith}
use Rattle.chunks.proofs.Turns.{last_went, passed_went, six_own, settled_same}
use Rattle.chunks.proofs.whole_object.Goals as goal

pub returns-then-sound_whole : goal.returns-then-sound_whole
returns-then-sound_whole c = let a = c in let q = a.requires.2 in passed_went _ _ _ _ a.requires.0 a.requires.1 q.goes q.begun _ _ _ _ _ refl q.kind q.total six_own q.last _ _ _ _ q.there c.gather-h.ensures (c.sound_whole.ensures c.if-sound_whole.true) (λ e. omega arith) c.after.ensures c.write_record.ensures c.open.ensures

pub returns : goal.returns
returns c = let a = c in let q = a.requires.2 in last_went _ _ _ _ a.requires.0 a.requires.1 q.goes q.begun _ _ _ _ _ refl q.kind q.total six_own q.last _ _ _ q.there c.gather-h.ensures (settled_same _ _ c.same_state.ensures _ _ _ _ _ _ _ c.same_dwords.ensures c.same.ensures c.settle.ensures)
