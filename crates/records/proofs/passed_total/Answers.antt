use native.Mathlib.Omega.{arith}
use Rattle.records.proofs.Totals.{object_total, kind_total, plain_total}
use Rattle.records.proofs.passed_total.Goals as goal

pub returns-in-7 : goal.returns-in-7
returns-in-7 c = object_total _ _ c.in-7.is

pub returns-in-3 : goal.returns-in-3
returns-in-3 c = kind_total _ 3 _ (omega arith) (λ q. omega arith) c.in-3.is c.requires

pub returns-in-4 : goal.returns-in-4
returns-in-4 c = kind_total _ 4 _ (omega arith) (λ q. omega arith) c.in-4.is c.requires

pub returns-in-5 : goal.returns-in-5
returns-in-5 c = kind_total _ 5 _ (omega arith) (λ q. omega arith) c.in-5.is c.requires

pub returns-in-6 : goal.returns-in-6
returns-in-6 c = kind_total _ 6 _ (omega arith) (λ q. omega arith) c.in-6.is c.requires

pub returns-in-8 : goal.returns-in-8
returns-in-8 c = kind_total _ 8 _ (omega arith) (λ q. omega arith) c.in-8.is c.requires

pub returns-in_default : goal.returns-in_default
returns-in_default c =
    let r = c.in_default.in_default-own.rest in
    plain_total _ _ r.0.0.0.0.1 r.0.0.0.1 r.0.0.1 r.0.1 r.0.0.0.0.0.1 r.1 c.requires
