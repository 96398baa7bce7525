use Rattle.records.specs.Turns.{rest_of, GoesOn, MayRepeat}
use native.Mathlib.Omega.{arith}
use Rattle.records.proofs.Fills.{own_passed, left_in, left_passes, left_room}
use Rattle.records.proofs.Places.{left_small, left_length, last_records, then_more, then_left, then_header, then_records}
use borrow.Author.Rules.{rules}
use Rattle.records.proofs.record_as.Goals as goal

pub passed_total-t-requires : goal.passed_total-t-requires
passed_total-t-requires g c =
    let p = c.requires in left_length _ _ _ _ p.0 _ _ p.1.0 p.1.1

pub own_dwords-h-requires : goal.own_dwords-h-requires
own_dwords-h-requires g c =
    let p = c.requires in
    let l = p.0 in
    let z = left_small _ _ _ _ l in
    (own_passed _ _ _ _ _ p.1.0 p.1.1 (left_passes _ _ _ _ l) (left_in _ _ _ _ l), omega arith, p.1.0)

pub overflow_cast-at : goal.overflow_cast-at
overflow_cast-at g c = let z = left_small _ _ _ _ c.requires.0 in omega arith

pub put-requires : goal.put-requires
put-requires g c = let z = left_small _ _ _ _ c.requires.0 in let x = c.requires.0.commands in (left_room _ _ _ _ c.requires.0, omega arith)

pub returns-then-k-eq2 : goal.returns-then-k-eq2
unfolding rest_of GoesOn MayRepeat
returns-then-k-eq2 g c =
    let p = c.requires in
    (last_records _ _ _ _ p.0 _ _ p.1.0 p.1.1 _ _ c.passed_total-t.ensures c.own_dwords-h.ensures _ _ _ _ c.if-k-eq2.true c.words.ensures c.put.ensures, tt, tt)

pub overflow_add-result : goal.overflow_add-result
overflow_add-result g c = let z = left_small _ _ _ _ c.requires.0 in search rules

pub after-requires : goal.after-requires
after-requires g c =
    let l = c.requires.0 in
    let z = left_small _ _ _ _ l in
    let x = l.commands in
    let y = l.objects in (omega arith, omega arith)

pub returns : goal.returns
unfolding rest_of GoesOn MayRepeat
returns g c =
    let p = c.requires in
    let q = c.if-k-eq2.false in
    let s = c.after.ensures in (
      then_records _ _ _ _ p.0 _ _ p.1.0 p.1.1 _ _ c.passed_total-t.ensures c.own_dwords-h.ensures _ q s _ _ _ _ c.words.ensures c.put.ensures,
      (then_more _ _ _ _ p.0 _ _ p.1.0 p.1.1 _ _ c.passed_total-t.ensures c.own_dwords-h.ensures _ q s, then_left _ _ _ _ p.0 _ _ p.1.0 p.1.1 _ _ c.passed_total-t.ensures c.own_dwords-h.ensures _ q s),
      then_header _ _ _ _ p.0 _ _ p.1.0 p.1.1 _ _ c.passed_total-t.ensures c.own_dwords-h.ensures _ q s,
    )
