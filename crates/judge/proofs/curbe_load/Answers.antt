use Rattle.std.proofs.Common.{rules}
use Rattle.judge.proofs.Verdicts.{curbe_is, at_row, past_row}
use Rattle.judge.proofs.curbe_load.Goals as goal

pub returns-in_err-must_be_zero : goal.returns-in_err-must_be_zero
returns-in_err-must_be_zero c =
    curbe_is _ _ _
    (at_row _ _ _ _ _ c.must_be_zero.ensures _ c.in_err-must_be_zero.was (search rules))

pub returns-in_err-row : goal.returns-in_err-row
returns-in_err-row c =
    curbe_is _ _ _
    (past_row _ _ _ _ _ c.must_be_zero.ensures _ c.in_ok-must_be_zero.was
    (past_row _ _ _ _ _ c.must_be_zero-2.ensures _ c.in_ok-must_be_zero-2.was
    (at_row _ _ _ _ _ c.row.ensures _ c.in_err-row.was (search rules))))

pub returns-in_err-row-2 : goal.returns-in_err-row-2
returns-in_err-row-2 c =
    curbe_is _ _ _
    (past_row _ _ _ _ _ c.must_be_zero.ensures _ c.in_ok-must_be_zero.was
    (past_row _ _ _ _ _ c.must_be_zero-2.ensures _ c.in_ok-must_be_zero-2.was
    (past_row _ _ _ _ _ c.row.ensures _ c.in_ok-row.was
    (at_row _ _ _ _ _ c.row-2.ensures _ c.in_err-row-2.was (search rules)))))

pub returns-in_err-row-3 : goal.returns-in_err-row-3
returns-in_err-row-3 c =
    curbe_is _ _ _
    (past_row _ _ _ _ _ c.must_be_zero.ensures _ c.in_ok-must_be_zero.was
    (past_row _ _ _ _ _ c.must_be_zero-2.ensures _ c.in_ok-must_be_zero-2.was
    (past_row _ _ _ _ _ c.row.ensures _ c.in_ok-row.was
    (past_row _ _ _ _ _ c.row-2.ensures _ c.in_ok-row-2.was
    (at_row _ _ _ _ _ c.row-3.ensures _ c.in_err-row-3.was (search rules))))))

pub returns : goal.returns
returns c =
    curbe_is _ _ _
    (past_row _ _ _ _ _ c.must_be_zero.ensures _ c.in_ok-must_be_zero.was
    (past_row _ _ _ _ _ c.must_be_zero-2.ensures _ c.in_ok-must_be_zero-2.was
    (past_row _ _ _ _ _ c.row.ensures _ c.in_ok-row.was
    (past_row _ _ _ _ _ c.row-2.ensures _ c.in_ok-row-2.was
    (past_row _ _ _ _ _ c.row-3.ensures _ c.in_ok-row-3.was
    (c.row-4.ensures))))))
