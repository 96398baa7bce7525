use Rattle.std.proofs.Common.{arith}
use Rattle.feed.proofs.Feeds.{answer_chip, answer_long, answer_used, answer_past, answer_fault, answer_room, answer_all}
use Rattle.feed.proofs.answer.Goals as goal

pub returns-then-c-number : goal.returns-then-c-number
returns-then-c-number c = answer_chip _ _ _ c.number.ensures _ _ c.if-c-number.true c.number-then-c-number.ensures c.refused.ensures

pub returns-then-c-gt16384 : goal.returns-then-c-gt16384
returns-then-c-gt16384 c =
    answer_long _ _ _ c.number.ensures _ c.if-c-number.false _ c.if-c-gt16384.true c.number-then-c-gt16384.ensures c.refused-then-c-gt16384.ensures

pub returns-in-0 : goal.returns-in-0
returns-in-0 c =
    answer_used _ _ _ c.number.ensures _ c.if-c-number.false c.if-c-gt16384.false _ c.in-0.is c.if-c-eq0.true c.number-in-0.ensures c.refused-in-0.ensures

pub returns-in-0-2 : goal.returns-in-0-2
returns-in-0-2 c =
    answer_past _ _ _ c.number.ensures _ c.if-c-number.false c.if-c-gt16384.false _ c.in-0.is c.if-c-eq0.false c.number-in-0-2.ensures c.refused-in-0-2.ensures

pub returns-in-255 : goal.returns-in-255
returns-in-255 c =
    answer_room _ _ _ c.number.ensures _ c.if-c-number.false c.if-c-gt16384.false c.in-255.is _ c.if-room-commands.true c.number-in-255.ensures
    c.refused-in-255.ensures

pub returns-in-255-2 : goal.returns-in-255-2
returns-in-255-2 c =
    answer_all _ _ _ c.number.ensures _ c.if-c-number.false c.if-c-gt16384.false c.in-255.is c.if-room-commands.false c.accepted.ensures

pub returns-in_default : goal.returns-in_default
returns-in_default c =
    answer_fault _ _ _ c.number.ensures _ c.if-c-number.false c.if-c-gt16384.false (λ e. omega arith) (λ e. omega arith) c.refused-in_default.ensures
