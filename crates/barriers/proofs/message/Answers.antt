use mathlib.Core.List.{[]}
use native.Mathlib.Omega.{arith}
use Rattle.event.specs.Gateways.{closed}
use Rattle.event.proofs.ByKind.{uncounted}
use Rattle.effects.proofs.Acks.{ack_room, no_ack}
use Rattle.effects.proofs.LeftAlone.{bytes_kept}
use Rattle.barriers.specs.Barriers.{waits_in}
use Rattle.barriers.proofs.Messages.{arrival_left, other_left}
use Rattle.barriers.proofs.message.Goals as goal

pub acknowledge-requires : goal.acknowledge-requires
acknowledge-requires c =
    let a = c.args in
    λ q. ack_room a.h a.setup closed (waits_in a.setup a.waiting.now) _ _ (omega arith) c.arrive-number.ensures.0 q

pub returns-then-h-eq4 : goal.returns-then-h-eq4
returns-then-h-eq4 c =
    let a = c.args in
    let p = c.requires.1 in
    arrival_left a.h a.setup a.members.now a.waiting.now a.bytes.now a.registers.now a.releases.now p.grouped p.masked
    c.if-h-eq4.true c.arrive-number.ensures c.acknowledge.ensures

pub returns-then-h-eq5 : goal.returns-then-h-eq5
returns-then-h-eq5 c =
    let a = c.args in
    let p = c.requires.1 in
    let e = c.update.ensures in
    let n = uncounted a.h a.setup (λ z. omega arith) (λ z. omega arith) (λ z. omega arith) c.if-h-eq4.false in
    other_left a.h a.setup a.members.now a.waiting.now a.bytes.now a.registers.now a.releases.now p.grouped p.masked
    (λ z. omega arith) c.if-h-eq4.false e.0 e.1 (no_ack a.h _ a.registers.now n)

pub returns : goal.returns
returns c =
    let a = c.args in
    let p = c.requires.1 in
    let n = uncounted a.h a.setup (λ z. omega arith) (λ z. omega arith) (λ z. omega arith) c.if-h-eq4.false in
    other_left a.h a.setup a.members.now a.waiting.now a.bytes.now a.registers.now a.releases.now p.grouped p.masked
    (λ z. omega arith) c.if-h-eq4.false c.other_outcome.ensures (bytes_kept a.h a.setup closed [] c.if-h-eq5.false a.bytes.now) (no_ack a.h _ a.registers.now n)
