use mathlib.Core.Path.{sym, ap, ◌∙◌}
use mathlib.Core.List.{[]}
use native.Mathlib.Omega.{arith}
use lib.ListN.{set}
use Rattle.event.specs.Gateways.{closed}
use Rattle.event.specs.Outcomes.{decision_of}
use Rattle.effects.specs.Gateways.{gateways_in}
use Rattle.effects.proofs.Acks.{ack_room}
use Rattle.effects.proofs.Refused.{same_gateways}
use Rattle.effects.proofs.LeftAlone.{gateway_set, passed_sender}
use Rattle.effects.proofs.gateways.open_or_close.Goals as goal

pub acknowledge-requires : goal.acknowledge-requires
acknowledge-requires c = λ a. ack_room c.args.h c.args.setup closed [] _ _ (omega (arith, c.requires)) c.gateway_outcome-number.ensures a

pub returns-then-number-ne0 : goal.returns-then-number-ne0
returns-then-number-ne0 c =
    let a = c.args in
    let o = c.gateway_outcome-number.ensures in
    let d = decision_of a.h a.setup closed [] in
    (o, sym (same_gateways d (λ z. c.if-number-ne0.true (o ∙ z)) (gateways_in a.words.now)), c.acknowledge.ensures)

pub set_gateway-requires : goal.set_gateway-requires
set_gateway-requires c = (
  omega (arith, c.requires),
  omega (arith, c.requires, passed_sender c.args.h c.args.setup closed [] (sym c.gateway_outcome-number.ensures ∙ c.if-number-ne0.false)),
)

pub acknowledge-requires-2 : goal.acknowledge-requires-2
acknowledge-requires-2 c =
    λ a. ack_room c.args.h c.args.setup closed [] 0 _ (omega (arith, c.requires)) (sym c.if-number-ne0.false ∙ c.gateway_outcome-number.ensures) a

pub returns : goal.returns
returns c =
    let a = c.args in
    let o = sym c.gateway_outcome-number.ensures ∙ c.if-number-ne0.false in
    let g = gateways_in a.words.now in
    (sym o, c.set_gateway.ensures ∙ ap (set g a.h.sender) c.gateway_left.ensures ∙ gateway_set a.h a.setup closed [] c.requires.0 o g, c.acknowledge-2.ensures)
