use Rattle.std.proofs.Common.{rules}
use Rattle.judge.proofs.Verdicts.{vfe_is, at_row, past_row}
use Rattle.judge.proofs.vfe.Goals as goal

pub returns-in_err-must_be_zero : goal.returns-in_err-must_be_zero
returns-in_err-must_be_zero c =
    vfe_is _ _ _
    (at_row _ _ _ _ _ c.must_be_zero.ensures _ c.in_err-must_be_zero.was (search rules))

pub returns-in_err-must_be_zero-2 : goal.returns-in_err-must_be_zero-2
returns-in_err-must_be_zero-2 c =
    vfe_is _ _ _
    (past_row _ _ _ _ _ c.must_be_zero.ensures _ c.in_ok-must_be_zero.was
    (at_row _ _ _ _ _ c.must_be_zero-2.ensures _ c.in_err-must_be_zero-2.was (search rules)))

pub returns-in_err-must_be_zero-3 : goal.returns-in_err-must_be_zero-3
returns-in_err-must_be_zero-3 c =
    vfe_is _ _ _
    (past_row _ _ _ _ _ c.must_be_zero.ensures _ c.in_ok-must_be_zero.was
    (past_row _ _ _ _ _ c.must_be_zero-2.ensures _ c.in_ok-must_be_zero-2.was
    (at_row _ _ _ _ _ c.must_be_zero-3.ensures _ c.in_err-must_be_zero-3.was (search rules))))

pub returns-in_err-must_be_zero-4 : goal.returns-in_err-must_be_zero-4
returns-in_err-must_be_zero-4 c =
    vfe_is _ _ _
    (past_row _ _ _ _ _ c.must_be_zero.ensures _ c.in_ok-must_be_zero.was
    (past_row _ _ _ _ _ c.must_be_zero-2.ensures _ c.in_ok-must_be_zero-2.was
    (past_row _ _ _ _ _ c.must_be_zero-3.ensures _ c.in_ok-must_be_zero-3.was
    (at_row _ _ _ _ _ c.must_be_zero-4.ensures _ c.in_err-must_be_zero-4.was (search rules)))))
