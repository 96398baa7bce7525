use Rattle.std.proofs.Common.{arith, rules, tests}
use Rattle.awaited.proofs.Turns.{told}
use Rattle.awaited.proofs.Searched.{turn_found, turn_next, near_passed, passed_unawaited, search_none}
use Rattle.awaited.proofs.over_records.Search.first_awaited.Goals as goal

pub loop-r-init : goal.loop-r-init
loop-r-init g c =
    let near = told _ _ _ _ _ (λ i h. search (rules, tests)) c.leap-r.ensures in
    (c.leap-r.ensures.within, passed_unawaited _ _ _ _ c.args.self.now.quick _ _ _ (near_passed _ _ _ _ _ _ near) c.requires.2)

pub returns-then-r-to : goal.returns-then-r-to
returns-then-r-to g c = search_none _ _ _ (passed_unawaited _ _ _ _ c.args.self.now.quick _ _ _ c.first_reached-r.ensures c.loop-r.invariant.1) (omega arith)

pub returns-then-awaited : goal.returns-then-awaited
returns-then-awaited g c = turn_found _ _ _ (passed_unawaited _ _ _ _ c.args.self.now.quick _ _ _ c.first_reached-r.ensures c.loop-r.invariant.1) _ c.awaited.ensures (omega (arith, c.if-r-to.false, c.first_reached-r.ensures.within)) c.if-awaited.true

pub loop-r-preserved : goal.loop-r-preserved
loop-r-preserved g c = (omega (arith, c.if-r-to.false, c.first_reached-r.ensures.within), turn_next _ c.args.to _ (passed_unawaited _ _ _ _ c.args.self.now.quick _ _ _ c.first_reached-r.ensures c.loop-r.invariant.1) _ c.awaited.ensures (omega (arith, c.if-r-to.false, c.first_reached-r.ensures.within)) c.if-awaited.false)

pub returns : goal.returns
returns g c = search_none _ _ _ c.loop-r.invariant.1 c.loop-r-test.false
