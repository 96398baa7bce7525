use Rattle.laws.proofs.BitRanges.{taken_low}
use Rattle.command.specs.Kinds.{total_of}
use Rattle.laws.proofs.Tests.{tests}
use native.Mathlib.Omega.{arith}
use Rattle.command.proofs.head.total.Goals as goal

pub returns-then-k-lt3 : goal.returns-then-k-lt3
unfolding total_of
returns-then-k-lt3 c = rw taken_low (search (tests, arith))

pub returns : goal.returns
unfolding total_of
returns c = rw taken_low (search (tests, arith))
