use Rattle.std.proofs.Common.{arith, ap, ◌∙◌}
use Rattle.std.specs.Prelude.{Ok, Err}
use Rattle.reading.specs.Decision.{found}
use Rattle.reading.proofs.Decisions.{fits_limit, fits_whole}
use Rattle.listing.proofs.Outcomes.{refused_written, few_commands, records_room, kinds_named, accepted_written}
use Rattle.listing.proofs.outcome.Goals as goal

pub fill-requires : goal.fill-requires
fill-requires c =
    let w = c.decide.ensures in
    let e = ap found c.in-Ok.is in
    (fits_limit _ _ _ _ _ _ _ w e, fits_whole _ _ _ _ _ _ _ w e, let q = records_room _ _ (omega arith) _ w _ _ _ e in omega arith)

pub lines-requires : goal.lines-requires
lines-requires c =
    let w = c.decide.ensures in
    let e = ap found c.in-Ok.is in
    let h = few_commands _ _ (omega arith) _ w _ _ _ e in
    (h, omega arith, omega arith, kinds_named _ _ (omega arith) _ w _ _ _ e _ (omega arith) _ c.fill.ensures)

pub accepted-requires : goal.accepted-requires
accepted-requires c = let h = few_commands _ _ (omega arith) _ c.decide.ensures _ _ _ (ap found c.in-Ok.is) in omega arith

pub returns-in-Err : goal.returns-in-Err
returns-in-Err c =
    let e = ap found c.in-Err.is in
    (refused_written _ _ (omega arith) _ c.decide.ensures _ _ _ _ e (rw (← c.number.ensures) c.refused.ensures.0), omega arith)

pub returns-in-Ok : goal.returns-in-Ok
returns-in-Ok c =
    let w = c.decide.ensures in
    let e = ap found c.in-Ok.is in
    let h = few_commands _ _ (omega arith) _ w _ _ _ e in (
      accepted_written _ _ (omega arith) _ w _ _ _ e _ (omega arith) _ c.fill.ensures _ _ _ (omega arith) c.lines.ensures.0 c.accepted.ensures.0,
      omega arith,
    )
