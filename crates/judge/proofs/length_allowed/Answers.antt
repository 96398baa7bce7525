use borrow.Author.Tests.{lt-ltb}
use Rattle.laws.proofs.BitRanges.{taken_low}
use Rattle.command.specs.Kinds.{length_allowed}
use Rattle.command.proofs.Heads.{none_allowed}
use Rattle.judge.proofs.length_allowed.Goals as goal

pub returns-then-k-lt3 : goal.returns-then-k-lt3
unfolding length_allowed
returns-then-k-lt3 c = simp (lt-ltb _ _ c.if-k-lt3.true)

pub returns-in-7 : goal.returns-in-7
unfolding length_allowed
returns-in-7 c = simp (taken_low, c.in-7.is)

pub returns-in-3 : goal.returns-in-3
unfolding length_allowed
returns-in-3 c = simp (taken_low, c.in-3.is)

pub returns-in-4 : goal.returns-in-4
unfolding length_allowed
returns-in-4 c = simp (taken_low, c.in-4.is)

pub returns-in-5 : goal.returns-in-5
unfolding length_allowed
returns-in-5 c = simp (taken_low, c.in-5.is)

pub returns-in-6 : goal.returns-in-6
unfolding length_allowed
returns-in-6 c = simp (taken_low, c.in-6.is)

pub returns-in-8 : goal.returns-in-8
unfolding length_allowed
returns-in-8 c = simp (taken_low, c.in-8.is)

pub returns-in_default : goal.returns-in_default
returns-in_default c =
    let r = c.in_default.in_default-own.rest in
    none_allowed _ r.0.0.0.0.1 r.0.0.0.1 r.0.0.1 r.0.1 r.0.0.0.0.0.1 r.1 _ c.if-k-lt3.false
