use mathlib.Core.Path.{sym, ap}
use Rattle.command.specs.Kinds.{kind_of}
use Rattle.command.proofs.Heads.{no_plain_kind}
use Rattle.command.proofs.head.plain_kind.Goals as goal

pub returns-in-0 : goal.returns-in-0
unfolding kind_of
returns-in-0 c = ap (kind_of c.args.chip) (sym c.in-0.is)

pub returns-in-33554432 : goal.returns-in-33554432
unfolding kind_of
returns-in-33554432 c = ap (kind_of c.args.chip) (sym c.in-33554432.is)

pub returns-in-83886080 : goal.returns-in-83886080
unfolding kind_of
returns-in-83886080 c = ap (kind_of c.args.chip) (sym c.in-83886080.is)

pub returns-in_default : goal.returns-in_default
returns-in_default c = search no_plain_kind
