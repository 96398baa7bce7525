use Rattle.std.proofs.Common.{rules}
use Rattle.reading.proofs.Steps.{steps_halt, steps_on, step_within, step_header}
use Rattle.reading.proofs.advance_all.Goals as goal

pub returns-in_err-next : goal.returns-in_err-next
returns-in_err-next g c =
    let p = c.requires in steps_halt _ _ _ p.0 p.2 _ c.advance_as.ensures _ _ c.in_err-next.was (search rules)

pub no_ops-requires : goal.no_ops-requires
no_ops-requires g c =
    let p = c.requires in (p.1, step_within _ _ _ p.0 p.2 _ c.advance_as.ensures _ c.in_ok-next.was)

pub again-requires : goal.again-requires
again-requires g c =
    let p = c.requires in
    let e = c.in_ok-next.was in
    (p.1, step_within _ _ _ p.0 p.2 _ c.advance_as.ensures _ e, step_header _ _ _ p.0 p.2 _ c.advance_as.ensures _ e _ _ p.3.0 p.3.1)

pub returns-then-this-eq0 : goal.returns-then-this-eq0
returns-then-this-eq0 g c =
    let p = c.requires in
    steps_on _ _ _ p.0 p.2 _ c.advance_as.ensures _ c.in_ok-next.was _ c.no_ops.ensures

pub returns : goal.returns
returns g c =
    let p = c.requires in
    steps_on _ _ _ p.0 p.2 _ c.advance_as.ensures _ c.in_ok-next.was _ c.again.ensures
