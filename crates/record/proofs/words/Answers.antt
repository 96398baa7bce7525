use borrow.Author.Tests.{ne_eqb}
use Rattle.laws.proofs.BitRanges.{coded}
use Rattle.record.specs.Record.{record_of}
use Rattle.record.proofs.words.Goals as goal

pub returns-in-4 : goal.returns-in-4
unfolding record_of
returns-in-4 c = simp (coded, c.in-4.is) c.short.ensures

pub returns-in-5 : goal.returns-in-5
unfolding record_of
returns-in-5 c = simp (coded, c.in-5.is) c.short-in-5.ensures

pub returns-in-6 : goal.returns-in-6
unfolding record_of
returns-in-6 c = simp (coded, c.in-6.is) c.short-in-6.ensures

pub returns-in-8 : goal.returns-in-8
unfolding record_of
returns-in-8 c = simp (coded, c.in-8.is) c.short-in-8.ensures

pub returns-in_default : goal.returns-in_default
unfolding record_of
returns-in_default c =
    let r = c.in_default.in_default-own.rest in
    simp (
      ne_eqb _ _ r.1,
      ne_eqb _ _ r.0.1,
      ne_eqb _ _ r.0.0.1,
      ne_eqb _ _ r.0.0.0.1,
      ne_eqb _ _ r.0.0.0.0.1,
      ne_eqb _ _ r.0.0.0.0.0.1,
    ) c.short-in_default.ensures
