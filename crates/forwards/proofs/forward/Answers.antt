use Rattle.std.proofs.Common.{◌≡◌, sym, ap, subst, ◌∙◌, ℕ, ◌+◌, ◌*◌, ◌%◌, ◌<◌, [], arith}
use Rattle.event.specs.Outcomes.{outcome_of}
use Rattle.event.specs.ByKind.{decision_through}
use Rattle.effects.specs.Effects.{with_ack}
use Rattle.effects.proofs.Acks.{ack_room}
use Rattle.effects.proofs.Refused.{same_registers, same_counts}
use Rattle.forwards.proofs.Placed.{fits, last, forwarded_by, counted_by, acked_by}
use Rattle.forwards.proofs.forward.Goals as goal

-- ---- refused

pub acknowledge-requires : goal.acknowledge-requires
acknowledge-requires c = λ q. ack_room c.args.h c.args.setup c.args.gate [] _ _ c.requires.1.own c.forward_outcome-number.ensures q

pub returns-then-number-ne0 : goal.returns-then-number-ne0
returns-then-number-ne0 c =
    let a = c.args in
    let e = c.forward_outcome-number.ensures in
    let d = decision_through a.h a.setup a.gate in
    let n : outcome_of d ≡ 0 → ⊥ = λ z. c.if-number-ne0.true (e ∙ z) in (
      e,
      c.acknowledge.ensures ∙ ap (with_ack a.h c.forward_outcome-number.result) (sym (same_registers d n a.event.now a.registers.now)),
      sym (same_counts d n a.setup a.counts.now),
    )

-- ---- passed

pub overflow_mul-at : goal.overflow_mul-at
overflow_mul-at c = let a = c.args in let f = fits a.h a.setup a.gate c.requires.0 c.forward_outcome-number.ensures c.if-number-ne0.false c.requires.1.window in omega (arith, c.requires.1.few)

pub overflow_add-at : goal.overflow_add-at
overflow_add-at c = let a = c.args in let f = fits a.h a.setup a.gate c.requires.0 c.forward_outcome-number.ensures c.if-number-ne0.false c.requires.1.window in omega (arith, c.requires.1.few)

pub overflow_add-at-2 : goal.overflow_add-at-2
overflow_add-at-2 c = let a = c.args in let f = fits a.h a.setup a.gate c.requires.0 c.forward_outcome-number.ensures c.if-number-ne0.false c.requires.1.window in omega (arith, c.requires.1.few)

pub count-requires : goal.count-requires
count-requires c = let a = c.args in let f = fits a.h a.setup a.gate c.requires.0 c.forward_outcome-number.ensures c.if-number-ne0.false c.requires.1.window in f.code

pub write-requires : goal.write-requires
write-requires c =
    let a = c.args in
    let p = c.requires in
    let f = fits a.h a.setup a.gate c.requires.0 c.forward_outcome-number.ensures c.if-number-ne0.false c.requires.1.window in (
      omega (arith, c.window_start.ensures.0, c.count.ensures.0, p.1.own),
      c.count.ensures.1,
      p.1.event,
      λ n. omega (
        arith,
        c.count.ensures.0,
        last a.h a.setup a.gate p.0 c.forward_outcome-number.ensures c.if-number-ne0.false p.1.window
            (subst (λ (x : ℕ). 4064 < (4096 * a.h.target + x + a.h.place) % 4096) c.window_start.ensures.0 n),
      ),
    )

pub notify-requires : goal.notify-requires
notify-requires c =
    let a = c.args in
    let p = c.requires in
    let f = fits a.h a.setup a.gate c.requires.0 c.forward_outcome-number.ensures c.if-number-ne0.false c.requires.1.window in (omega (arith, p.1.room.two), omega (arith, p.1.room.two, p.1.few), p.1.room.low)

pub acknowledge-requires-2 : goal.acknowledge-requires-2
acknowledge-requires-2 c =
    λ q. ack_room c.args.h c.args.setup c.args.gate [] 0 _ (omega arith) (sym c.if-number-ne0.false ∙ c.forward_outcome-number.ensures) q

pub returns : goal.returns
returns c =
    let a = c.args in
    let k = c.requires.0 in
    let e = c.forward_outcome-number.ensures in
    let z = c.if-number-ne0.false in
    let w = forwarded_by a.h a.setup a.gate k e z a.event.now a.registers.now c.window_start.ensures.0 c.count.ensures.0 c.write.ensures in (
      sym z ∙ e,
      acked_by a.h a.setup a.gate k e z a.event.now a.registers.now w c.acknowledge-2.ensures,
      counted_by a.h a.setup a.gate k e z a.counts.now c.notify.ensures,
    )
