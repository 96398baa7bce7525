use Rattle.judge.proofs.Verdicts.{plain}
use Rattle.judge.proofs.own_verdict.Goals as goal

pub returns-in_default : goal.returns-in_default
returns-in_default c =
    let r = c.in_default.in_default-own.rest in
    plain _ r.0.0.0.0.1 r.0.0.0.1 r.0.0.1 r.0.1 r.0.0.0.0.0.1 r.1 _ _
