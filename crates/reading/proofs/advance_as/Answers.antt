use Rattle.std.proofs.Common.{rules}
use Rattle.reading.proofs.Turns.{step_header, step_own, step_last, step_next, own_there}
use Rattle.reading.proofs.advance_as.Goals as goal

pub returns-in_err-header_verdict : goal.returns-in_err-header_verdict
returns-in_err-header_verdict g c =
    let p = c.requires in step_header _ _ _ _ _ _ _ c.held.ensures p.1.0 p.1.1 c.header_verdict.ensures _ _ c.in_err-header_verdict.was (search rules)

pub own_dwords-h-requires : goal.own_dwords-h-requires
own_dwords-h-requires g c =
    let p = c.requires in
    (own_there _ _ _ _ _ c.args.st _ c.held.ensures p.1.0 p.1.1 c.header_verdict.ensures c.in_ok-header_verdict.was (search rules), search rules, p.1.0)

pub returns-in_err-own_verdict : goal.returns-in_err-own_verdict
returns-in_err-own_verdict g c =
    let p = c.requires in
    step_own _ _ _ _ _ _ _ c.held.ensures p.1.0 p.1.1 c.header_verdict.ensures _ _ c.own_dwords-h.ensures c.own_verdict.ensures _ c.in_ok-header_verdict.was _ _
    c.in_err-own_verdict.was (search rules)

pub returns-then-k-eq2 : goal.returns-then-k-eq2
returns-then-k-eq2 g c =
    let p = c.requires in
    step_last _ _ _ _ _ _ _ c.held.ensures p.1.0 p.1.1 c.header_verdict.ensures _ _ c.own_dwords-h.ensures c.own_verdict.ensures _ c.in_ok-header_verdict.was _
    c.in_ok-own_verdict.was c.if-k-eq2.true

pub returns : goal.returns
returns g c =
    let p = c.requires in
    step_next _ _ _ _ _ _ _ c.held.ensures p.1.0 p.1.1 c.header_verdict.ensures _ _ c.own_dwords-h.ensures c.own_verdict.ensures _ c.in_ok-header_verdict.was _ _ _
    c.in_ok-own_verdict.was c.if-k-eq2.false c.total.ensures c.after.ensures
