use mathlib.Core.Path.{sym, ◌∙◌}
use borrow.Author.Rules.{rules}
use native.Mathlib.Omega.{arith}
use Rattle.records.proofs.Fills.{own_passed, left_in, left_passes}
use Rattle.records.proofs.Places.{room_there, left_small, allowed_length, same_header, then_less, then_left, then_chip, then_records}
use Rattle.records.proofs.again.Goals as goal

pub passed_total-t-requires : goal.passed_total-t-requires
passed_total-t-requires g c = search allowed_length

pub word-requires : goal.word-requires
word-requires g c = left_in _ _ _ _ c.loop-h.invariant.0

pub own_dwords-h-requires : goal.own_dwords-h-requires
own_dwords-h-requires g c =
    let l = c.loop-h.invariant.0 in
    let d = sym c.loop-h-test.true ∙ c.word.ensures in
    let z = left_small _ _ _ _ l in
    (own_passed _ _ _ _ _ d (same_header _ _ _ _ c.loop-h.invariant.2 c.requires.1) (left_passes _ _ _ _ l) (left_in _ _ _ _ l), omega arith, d)

pub overflow_cast-at : goal.overflow_cast-at
overflow_cast-at g c = let z = left_small _ _ _ _ c.loop-h.invariant.0 in omega arith

pub put-requires : goal.put-requires
put-requires g c =
    let q = c.loop-h.invariant in
    let z = left_small _ _ _ _ q.0 in
    let x = q.0.commands in (room_there g.B.Element.dwords g.met.B.Element.by_length _ _ _ _ _ c.loop-h.auto.records q.0, omega arith)

pub after-s-requires : goal.after-s-requires
after-s-requires g c =
    let l = c.loop-h.invariant.0 in
    let z = left_small _ _ _ _ l in
    let x = l.commands in
    let y = l.objects in (omega arith, omega arith)

pub overflow_add-at : goal.overflow_add-at
overflow_add-at g c = let z = left_small _ _ _ _ c.loop-h.invariant.0 in search rules

pub loop-h-smaller : goal.loop-h-smaller
loop-h-smaller g c =
    let p = c.requires in
    let q = c.loop-h.invariant in
    let d = sym c.loop-h-test.true ∙ c.word.ensures in
    then_less _ _ _ _ q.0 _ _ d (same_header _ _ _ _ q.2 p.1) _ _ c.passed_total-t.ensures c.own_dwords-h.ensures _ p.1.goes c.after-s.ensures

pub loop-h-preserved : goal.loop-h-preserved
loop-h-preserved g c =
    let p = c.requires in
    let q = c.loop-h.invariant in
    let d = sym c.loop-h-test.true ∙ c.word.ensures in
    let t = c.passed_total-t.ensures in
    let h = c.own_dwords-h.ensures in (
      then_left _ _ _ _ q.0 _ _ d (same_header _ _ _ _ q.2 p.1) _ _ t h _ p.1.goes c.after-s.ensures,
      search rules,
      then_chip _ _ _ _ q.0 _ _ d (same_header _ _ _ _ q.2 p.1) _ _ t h _ p.1.goes c.after-s.ensures ∙ q.2,
      then_records _ _ _ _ q.0 _ _ d (same_header _ _ _ _ q.2 p.1) _ _ t h _ p.1.goes c.after-s.ensures _ _ _ _ c.words.ensures c.put.ensures ∙ q.3,
    )
