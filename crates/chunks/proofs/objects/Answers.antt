use Rattle.chunks.proofs.Turns.{objects_next, next_own, next_first, next_at, next_less, next_chip, next_alike, next_kept, object_long, led_then}
use native.Mathlib.Omega.{arith}
use borrow.Author.Rules.{rules}
use Rattle.chunks.proofs.objects.Goals as goal

pub returns : goal.returns
returns c =
    let v = c.loop-i.invariant in
    led_then _ _ _ _ _ _ _ _ v.0 (λ e. search rules) (λ e. v.5 (let z = v.0.forth in search rules)) c.then_some.ensures

pub own_dwords-h-requires : goal.own_dwords-h-requires
own_dwords-h-requires c = let v = c.loop-i.invariant in let x = objects_next _ _ _ _ _ _ v.3 c.loop-i-test.true in (next_own _ _ _ _ _ _ _ _ _ _ _ _ v.0 c.requires.1 v.1 c.total-t.ensures v.4 x, (let q = v.0.ready in let a = q.inside in let b = q.few in search rules), next_first _ _ _ _ _ _ _ _ _ _ _ _ v.0 c.requires.1 v.1 c.total-t.ensures v.4 x)

pub overflow_add-at : goal.overflow_add-at
overflow_add-at c = let v = c.loop-i.invariant in let x = objects_next _ _ _ _ _ _ v.3 c.loop-i-test.true in let z = next_at _ _ _ _ _ _ _ _ _ _ _ _ v.0 c.requires.1 v.1 c.total-t.ensures v.4 x in search rules

pub loop-i-smaller : goal.loop-i-smaller
loop-i-smaller c = let v = c.loop-i.invariant in let x = objects_next _ _ _ _ _ _ v.3 c.loop-i-test.true in next_less _ _ _ _ _ _ _ _ _ _ _ _ v.0 c.requires.1 v.1 c.total-t.ensures v.4 x

pub loop-i-preserved : goal.loop-i-preserved
loop-i-preserved c = let v = c.loop-i.invariant in let x = objects_next _ _ _ _ _ _ v.3 c.loop-i-test.true in (next_kept _ _ _ _ _ _ _ _ _ _ _ _ v.0 c.requires.1 v.1 c.total-t.ensures v.4 x _ c.own_dwords-h.ensures _ c.after-st.ensures _ c.write_record.ensures, next_chip _ _ _ _ _ _ _ _ _ _ _ _ v.0 c.requires.1 v.1 c.total-t.ensures v.4 x _ c.own_dwords-h.ensures _ c.after-st.ensures, (let q = v.2 in search rules), x.rest, next_alike _ _ _ _ _ _ _ _ _ _ _ _ v.0 c.requires.1 v.1 c.total-t.ensures v.4 x _ c.own_dwords-h.ensures _ c.after-st.ensures, λ e. let z = v.0.forth in let y = object_long _ _ c.total-t.ensures in absurd (omega arith))
