use Rattle.std.proofs.Common.{rules, arith, refl}
use Rattle.reading.proofs.Steps.{total_one, own_again, stands_same, again_less, again_in, again_commands, again_objects, again_chip, again_scan}
use Rattle.reading.proofs.again.Goals as goal

pub repeated-requires : goal.repeated-requires
repeated-requires g c = (search rules, search total_one)

pub own_dwords-h-requires : goal.own_dwords-h-requires
own_dwords-h-requires g c =
    let p = c.requires in
    let q = c.loop-h.invariant in
    (own_again _ _ _ _ _ _ _ _ refl p.2 c.total-t.ensures c.repeated.ensures c.loop-h-test.true q.0, (let z = p.0 in let y = q.0 in omega arith), stands_same _ _ _ _ _ c.repeated.ensures c.loop-h-test.true)

pub loop-h-smaller : goal.loop-h-smaller
loop-h-smaller g c =
    let p = c.requires in
    let q = c.loop-h.invariant in
    again_less _ _ _ _ _ _ _ _ refl p.2 c.total-t.ensures c.repeated.ensures c.loop-h-test.true q.0 _ _ _ _ c.own_dwords-h.ensures c.sound.ensures c.if-not-sound.false c.after-s.ensures q.4

pub loop-h-preserved : goal.loop-h-preserved
loop-h-preserved g c =
    let p = c.requires in
    let q = c.loop-h.invariant in (
      again_in _ _ _ _ _ _ _ _ refl p.2 c.total-t.ensures c.repeated.ensures c.loop-h-test.true q.0 _ _ _ _ c.own_dwords-h.ensures c.sound.ensures c.if-not-sound.false c.after-s.ensures q.4,
      again_commands _ _ _ _ _ _ _ _ refl p.2 c.total-t.ensures c.repeated.ensures c.loop-h-test.true q.0 _ _ _ _ c.own_dwords-h.ensures c.sound.ensures c.if-not-sound.false c.after-s.ensures q.4 q.1,
      again_objects _ _ _ _ _ _ _ _ refl p.2 c.total-t.ensures c.repeated.ensures c.loop-h-test.true q.0 _ _ _ _ c.own_dwords-h.ensures c.sound.ensures c.if-not-sound.false c.after-s.ensures q.4 q.2,
      search rules,
      again_chip _ _ _ _ _ _ _ _ refl p.2 c.total-t.ensures c.repeated.ensures c.loop-h-test.true q.0 _ _ _ _ c.own_dwords-h.ensures c.sound.ensures c.if-not-sound.false c.after-s.ensures q.4,
      again_scan _ _ _ _ _ _ _ _ refl p.2 c.total-t.ensures c.repeated.ensures c.loop-h-test.true q.0 _ _ _ _ c.own_dwords-h.ensures c.sound.ensures c.if-not-sound.false c.after-s.ensures q.4 _ q.5,
    )
