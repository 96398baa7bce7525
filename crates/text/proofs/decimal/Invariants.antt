-- The number's text is the digits of what is left of it, and then those that stand already.
use Rattle.std.proofs.Common.{◌≡◌, ◌++◌, drop}
use Rattle.text.specs.Lines.{spell, number_of}
use Rattle.text.proofs.decimal.Given as goal

abbrev pub invariant-loop-i : goal.invariant-loop-i
invariant-loop-i l = number_of l.n ≡ spell l.i l.rest ++ drop l.i l.digits
