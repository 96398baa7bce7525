use Rattle.std.proofs.Common.{rules, refl}
use Rattle.judge.proofs.Verdicts.{header_is, at_row, past_row}
use Rattle.judge.proofs.header_verdict.Goals as goal

pub returns-in_err-row : goal.returns-in_err-row
returns-in_err-row c = header_is _ _ _ _ _ _ refl refl (at_row _ _ _ _ _ c.row.ensures _ c.in_err-row.was (search rules))

pub returns-in_err-row-2 : goal.returns-in_err-row-2
returns-in_err-row-2 c =
    header_is _ _ _ _ _ _ c.length_allowed.ensures refl
    (past_row _ _ _ _ _ c.row.ensures _ c.in_ok-row.was (at_row _ _ _ _ _ c.row-2.ensures _ c.in_err-row-2.was (search rules)))

pub returns : goal.returns
returns c =
    header_is _ _ _ _ _ _ c.length_allowed.ensures c.total.ensures
    (past_row _ _ _ _ _ c.row.ensures _ c.in_ok-row.was (past_row _ _ _ _ _ c.row-2.ensures _ c.in_ok-row-2.was c.row-3.ensures))
