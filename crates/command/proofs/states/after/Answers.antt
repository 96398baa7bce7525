use borrow.Author.Tests.{ne_eqb}
use Rattle.laws.proofs.BitRanges.{coded}
use Rattle.command.specs.Order.{state_after}
use Rattle.command.proofs.states.after.Goals as goal

pub returns-in-7 : goal.returns-in-7
unfolding state_after
returns-in-7 c = simp (coded, c.in-7.is)

pub returns-in-1 : goal.returns-in-1
unfolding state_after
returns-in-1 c = simp (coded, c.in-1.is)

pub returns-in-4 : goal.returns-in-4
unfolding state_after
returns-in-4 c = simp (coded, c.in-4.is, c.with_media.ensures)

pub returns-in-5 : goal.returns-in-5
unfolding state_after
returns-in-5 c = simp (coded, c.in-5.is, c.with_media-in-5.ensures)

pub returns-in-6 : goal.returns-in-6
unfolding state_after
returns-in-6 c = simp (coded, c.in-6.is, c.state_flushed.ensures)

pub returns-in-8 : goal.returns-in-8
unfolding state_after
returns-in-8 c = simp (coded, c.in-8.is, c.with_media-in-8.ensures)

pub returns-in_default : goal.returns-in_default
unfolding state_after
returns-in_default c = simp (ne_eqb _ _ c.in_default.in_default-own.rest.0.0.0.0.0.0.1, ne_eqb _ _ c.in_default.in_default-own.rest.1, ne_eqb _ _ c.in_default.in_default-own.rest.0.1, ne_eqb _ _ c.in_default.in_default-own.rest.0.0.1, ne_eqb _ _ c.in_default.in_default-own.rest.0.0.0.1, ne_eqb _ _ c.in_default.in_default-own.rest.0.0.0.0.1, ne_eqb _ _ c.in_default.in_default-own.rest.0.0.0.0.0.1)
