use Rattle.std.proofs.Common.{rules, ap, ◌∙◌}
use Rattle.std.specs.Prelude.{Err}
use Rattle.reading.specs.Decision.{found}
use Rattle.reading.proofs.Decisions.{decide_long, decide_stopped, decide_small, decide_room}
use Rattle.reading.proofs.decide.Goals as goal

pub returns-then-held-gt16384 : goal.returns-then-held-gt16384
returns-then-held-gt16384 g c = search decide_long

pub returns-in_err-extent : goal.returns-in_err-extent
returns-in_err-extent g c =
    ap found {y = Err c.in_err-extent.field-0.0} (search rules)
    ∙ decide_stopped _ c.args.room _ _ _ c.held.ensures (search rules) c.scan.ensures _ _ (ap found c.in_err-extent.was)

pub returns-then-room-extent : goal.returns-then-room-extent
returns-then-room-extent g c =
    decide_small _ c.args.room _ _ _ c.held.ensures (search rules) c.scan.ensures _ _ _ (ap found c.in_ok-extent.was) c.if-room-extent.true

pub returns : goal.returns
returns g c =
    decide_room _ c.args.room _ _ _ c.held.ensures (search rules) c.scan.ensures _ _ _ (ap found c.in_ok-extent.was) c.if-room-extent.false
