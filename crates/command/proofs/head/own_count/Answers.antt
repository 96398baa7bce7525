use native.Mathlib.Omega.{arith}
use Rattle.command.specs.Kinds.{own_dwords}
use Rattle.command.proofs.Heads.{own_as, own_one}
use mathlib.Core.Path.{refl, sym}
use Rattle.command.proofs.head.own_count.Goals as goal

pub returns-in-7 : goal.returns-in-7
unfolding own_dwords
returns-in-7 c = (own_as _ 7 6 refl c.in-7.is, omega arith)

pub returns-in-3 : goal.returns-in-3
unfolding own_dwords
returns-in-3 c = (own_as _ 3 8 refl c.in-3.is, omega arith)

pub returns-in-4 : goal.returns-in-4
unfolding own_dwords
returns-in-4 c = (own_as _ 4 4 refl c.in-4.is, omega arith)

pub returns-in-5 : goal.returns-in-5
unfolding own_dwords
returns-in-5 c = (own_as _ 5 4 refl c.in-5.is, omega arith)

pub returns-in-6 : goal.returns-in-6
unfolding own_dwords
returns-in-6 c = (own_as _ 6 2 refl c.in-6.is, omega arith)

pub returns-in-8 : goal.returns-in-8
unfolding own_dwords
returns-in-8 c = (own_as _ 8 2 refl c.in-8.is, omega arith)

pub returns-in_default : goal.returns-in_default
returns-in_default c =
    let r = c.in_default.in_default-own.rest in
    (sym (own_one _ r.0.0.0.0.1 r.0.0.0.1 r.0.0.1 r.0.1 r.0.0.0.0.0.1 r.1), omega arith)
