use Rattle.std.proofs.Common.{rules}
use Rattle.progress.proofs.Leaves.{judge_fault, judge_passed}
use Rattle.progress.proofs.judge.Goals as goal

pub returns-in_err-header_verdict : goal.returns-in_err-header_verdict
returns-in_err-header_verdict c =
    judge_fault _ _ _ _ _ c.header_verdict.ensures _ c.in_err-header_verdict.was _ (search rules)

pub returns : goal.returns
returns c = judge_passed _ _ _ _ _ c.header_verdict.ensures _ c.in_ok-header_verdict.was _ c.single_verdict.ensures
