use Rattle.std.proofs.Common.{refl, sym, arith, ◌≡◌, ap}
use Rattle.command.specs.Kinds.{own_dwords}
use Rattle.command.proofs.Heads.{head_by, own_at, head_one, own_as, own_one}
use Rattle.command.proofs.head.own_dwords.Goals as goal

pub first_dwords-requires : goal.first_dwords-requires
unfolding own_dwords
first_dwords-requires g c = (own_at _ 7 6 _ _ _ refl c.in-7.is c.requires, omega arith)

pub returns-in-7 : goal.returns-in-7
unfolding own_dwords
returns-in-7 g c = head_by _ 6 _ _ (sym (own_as _ 7 6 refl c.in-7.is)) c.first_dwords.ensures

pub first_dwords-requires-in-3 : goal.first_dwords-requires-in-3
unfolding own_dwords
first_dwords-requires-in-3 g c = (own_at _ 3 8 _ _ _ refl c.in-3.is c.requires, omega arith)

pub returns-in-3 : goal.returns-in-3
unfolding own_dwords
returns-in-3 g c = head_by _ 8 _ _ (sym (own_as _ 3 8 refl c.in-3.is)) c.first_dwords-in-3.ensures

pub first_dwords-requires-in-4 : goal.first_dwords-requires-in-4
unfolding own_dwords
first_dwords-requires-in-4 g c = (own_at _ 4 4 _ _ _ refl c.in-4.is c.requires, omega arith)

pub returns-in-4 : goal.returns-in-4
unfolding own_dwords
returns-in-4 g c = head_by _ 4 _ _ (sym (own_as _ 4 4 refl c.in-4.is)) c.first_dwords-in-4.ensures

pub first_dwords-requires-in-5 : goal.first_dwords-requires-in-5
unfolding own_dwords
first_dwords-requires-in-5 g c = (own_at _ 5 4 _ _ _ refl c.in-5.is c.requires, omega arith)

pub returns-in-5 : goal.returns-in-5
unfolding own_dwords
returns-in-5 g c = head_by _ 4 _ _ (sym (own_as _ 5 4 refl c.in-5.is)) c.first_dwords-in-5.ensures

pub first_dwords-requires-in-6 : goal.first_dwords-requires-in-6
unfolding own_dwords
first_dwords-requires-in-6 g c = (own_at _ 6 2 _ _ _ refl c.in-6.is c.requires, omega arith)

pub returns-in-6 : goal.returns-in-6
unfolding own_dwords
returns-in-6 g c = head_by _ 2 _ _ (sym (own_as _ 6 2 refl c.in-6.is)) c.first_dwords-in-6.ensures

pub first_dwords-requires-in-8 : goal.first_dwords-requires-in-8
unfolding own_dwords
first_dwords-requires-in-8 g c = (own_at _ 8 2 _ _ _ refl c.in-8.is c.requires, omega arith)

pub returns-in-8 : goal.returns-in-8
unfolding own_dwords
returns-in-8 g c = head_by _ 2 _ _ (sym (own_as _ 8 2 refl c.in-8.is)) c.first_dwords-in-8.ensures

pub first_dwords-requires-in_default : goal.first_dwords-requires-in_default
first_dwords-requires-in_default g c =
    let r = c.in_default.in_default-own.rest in
    (own_at _ _ 1 _ _ _ (own_one _ r.0.0.0.0.1 r.0.0.0.1 r.0.0.1 r.0.1 r.0.0.0.0.0.1 r.1) refl c.requires, omega arith)

pub returns-in_default : goal.returns-in_default
returns-in_default g c =
    let r = c.in_default.in_default-own.rest in
    head_one _ r.0.0.0.0.1 r.0.0.0.1 r.0.0.1 r.0.1 r.0.0.0.0.0.1 r.1 _ _ c.first_dwords-in_default.ensures
