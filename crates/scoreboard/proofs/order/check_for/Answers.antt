use Rattle.std.proofs.Common.{rules, [], ap, sym}
use Rattle.std.proofs.lemmas.Result.{err_from_is_err_and}
use Rattle.reading.specs.Decision.{found}
use Rattle.reading.proofs.Decisions.{fits_limit, fits_whole, fits_records}
use Rattle.scoreboard.proofs.Orders.{run_answer, records_are, numbers_are, count_is, core_refused, core_short, core_ran}
use Rattle.scoreboard.proofs.order.check_for.Goals as goal

pub returns-in_err-extent : goal.returns-in_err-extent
returns-in_err-extent g c =
    let p = err_from_is_err_and c.from_residual.result c.from_residual.ensures.1 in
    rw (p.1, p.2) (core_refused _ _ _ _ _ _ _ c.held.ensures _ c.decide.ensures _ c.in_err-extent.was)

pub returns-then-states-extent : goal.returns-then-states-extent
returns-then-states-extent g c =
    core_short _ _ _ _ _ _ _ c.held.ensures _ c.decide.ensures _ c.in_ok-extent.was c.if-states-extent.true

pub fill-requires : goal.fill-requires
fill-requires g c =
    let w = c.decide.ensures in
    let e = ap found c.in_ok-extent.was in
    (fits_limit _ _ _ _ _ _ _ w e, fits_whole _ _ _ _ _ _ _ w e, search (rules, fits_records _ _ _ _ _ _ _ w e, c.held.ensures))

pub invariant_of-objects : goal.invariant_of-objects
invariant_of-objects g c =
    let l = c.held.ensures in
    let w = c.decide.ensures in
    let e = c.in_ok-extent.was in
    let f = c.fill.ensures in
    record {
      recorded = records_are _ _ _ [] _ [] _ l _ w _ e _ f;
      numbered = numbers_are _ _ _ [] _ [] _ l _ w _ e _ f;
    }

pub run-requires : goal.run-requires
run-requires g c =
    let l = c.held.ensures in
    let w = c.decide.ensures in
    (count_is _ _ _ [] _ [] _ l _ w _ c.in_ok-extent.was _ c.fill.ensures, search rules)

pub returns-in_err-run : goal.returns-in_err-run
returns-in_err-run g c =
    let p = err_from_is_err_and c.from_residual-in_err-run.result c.from_residual-in_err-run.ensures.1 in
    rw (p.1, p.2)
    (core_ran _ _ _ _ _ _ _ c.held.ensures _ c.decide.ensures _ c.in_ok-extent.was _ _ _ _ _ c.if-states-extent.false c.fill.ensures c.begin.ensures c.run.ensures
    (sym (ap run_answer c.in_err-run.was)))

pub returns : goal.returns
returns g c =
    core_ran _ _ _ _ _ _ _ c.held.ensures _ c.decide.ensures _ c.in_ok-extent.was _ _ _ _ _ c.if-states-extent.false c.fill.ensures c.begin.ensures c.run.ensures
    (sym (ap run_answer c.in_ok-run.was))
