use mathlib.Core.Path.{refl, ◌∙◌}
use native.Mathlib.Omega.{arith}
use Rattle.effects.specs.Releases.{counts_in}
use Rattle.effects.proofs.ReleaseLaws.{held_room}
use Rattle.gateway.specs.Steps.{held}
use Rattle.gateway.proofs.Steps.{forward_leaves, open_or_close_leaves, message_leaves, kind_is}
use Rattle.gateway.proofs.step.step.Goals as goal

pub forward-requires : goal.forward-requires
forward-requires c =
    let a = c.args in
    let p = c.requires in (
      kind_is a.event.now c.head-h.ensures refl ∙ c.if-kind-eq2.true,
      record {
        few = p.rest.grouped.few;
        window = rw c.gateway-gate.ensures (p.windows _);
        event = p.event;
        own = p.rest.own;
        room = held_room a.setup a.releases.now a.counts.now p.room;
      },
    )

pub returns-then-kind-eq2 : goal.returns-then-kind-eq2
returns-then-kind-eq2 c =
    let a = c.args in
    let h = c.head-h in
    let k = held a.gateways.now a.waiting.now a.bytes.now a.registers.now (counts_in a.setup a.releases.now a.counts.now) in
    forward_leaves a.setup a.event.now h.result h.ensures k c.requires.rest.masked.own_waiting a.releases.now a.counts.now
    (kind_is a.event.now h.ensures refl ∙ c.if-kind-eq2.true) c.gateway-gate.ensures refl c.forward.ensures

pub open_or_close-requires : goal.open_or_close-requires
open_or_close-requires c =
    let p = c.requires in
    (omega (arith, kind_is c.args.event.now c.head-h-then-kind-lt2.ensures refl, c.if-kind-lt2.true), p.rest.grouped.few, p.four, p.rest.own)

pub returns-then-kind-lt2 : goal.returns-then-kind-lt2
returns-then-kind-lt2 c =
    let a = c.args in
    let h = c.head-h-then-kind-lt2 in
    let k = held a.gateways.now a.waiting.now a.bytes.now a.registers.now (counts_in a.setup a.releases.now a.counts.now) in
    open_or_close_leaves a.setup a.event.now h.result h.ensures k c.requires.rest.masked.own_waiting
    (omega (arith, kind_is a.event.now h.ensures refl, c.if-kind-lt2.true)) c.open_or_close.ensures

pub message-requires : goal.message-requires
message-requires c = (omega (arith, kind_is c.args.event.now c.head-h-2.ensures refl, c.if-kind-eq2.false, c.if-kind-lt2.false), c.requires.rest)

pub returns : goal.returns
returns c =
    let a = c.args in
    let p = c.requires.rest in
    let h = c.head-h-2 in
    let k = held a.gateways.now a.waiting.now a.bytes.now a.registers.now (counts_in a.setup a.releases.now a.counts.now) in
    message_leaves a.setup a.event.now h.result h.ensures k p.masked.own_waiting a.releases.now a.counts.now
    (omega (arith, kind_is a.event.now h.ensures refl, c.if-kind-eq2.false, c.if-kind-lt2.false)) p.grouped p.room.sixteen refl c.message.ensures
