use mathlib.Core.Path.{refl, sym, ◌∙◌}
use native.Mathlib.Omega.{arith}
use Rattle.gateway.specs.Steps.{held}
use Rattle.gateway.proofs.Whole.{set_up, running, refused_whole, replayed_whole}
use Rattle.gateway.proofs.Loops.{kept_ended}
use Rattle.gateway.proofs.replay.Goals as goal

pub returns-then-number-ne0 : goal.returns-then-number-ne0
returns-then-number-ne0 c =
    let a = c.args in
    refused_whole a.recording.now a.registers.now a.counts.now a.outcomes.now c.refusal-number.ensures c.if-number-ne0.true c.refused.ensures

pub setup-setup-requires : goal.setup-setup-requires
setup-setup-requires c =
    let a = c.args in
    set_up a.recording.now a.registers.now a.counts.now a.outcomes.now (sym c.refusal-number.ensures ∙ c.if-number-ne0.false)

pub half-events-requires : goal.half-events-requires
half-events-requires c =
    let a = c.args in
    let h = set_up a.recording.now a.registers.now a.counts.now a.outcomes.now (sym c.refusal-number.ensures ∙ c.if-number-ne0.false) in
    omega arith

pub run-end-requires : goal.run-end-requires
run-end-requires c =
    let a = c.args in
    running a.recording.now a.registers.now a.counts.now a.outcomes.now (sym c.refusal-number.ensures ∙ c.if-number-ne0.false) c.setup-setup.result
    c.half-events.result _ c.setup-setup.ensures c.half-events.ensures.0 c.half-events.ensures.1 c.clear.ensures

pub returns : goal.returns
returns c =
    let a = c.args in
    kept_ended _ c.setup-setup.result c.half-events.result _ _ _ (held c.run-end.result.gateways c.run-end.result.waiting c.run-end.result.bytes _ _) _
    c.run-end.ensures c.ended.ensures
    ∙ replayed_whole a.recording.now a.registers.now a.counts.now a.outcomes.now c.refusal-number.ensures c.if-number-ne0.false c.setup-setup.result
    c.half-events.result _ _ c.setup-setup.ensures c.half-events.ensures.0 c.clear.ensures refl
