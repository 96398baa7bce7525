use Rattle.reading.proofs.Steps.{total_one}
use Rattle.chunks.specs.Turns.{no_more}
use Rattle.chunks.proofs.Turns.{judged_own, judged_first, judged_inside, judged_less, judged_more}
use borrow.Author.Rules.{rules}
use Rattle.chunks.proofs.sound_objects.Goals as goal

pub loop-st-init : goal.loop-st-init
loop-st-init c = (c.requires.0, no_more)

pub repeated-requires : goal.repeated-requires
repeated-requires c = (c.loop-st.invariant.0, total_one 7 _ _ c.requires.3)

pub own_dwords-requires : goal.own_dwords-requires
own_dwords-requires c = (judged_own _ _ _ _ _ c.requires.2 c.requires.3 c.loop-st.invariant.0 _ c.repeated.ensures c.loop-st-test.true, (let q = c.loop-st.invariant.0 in let f = c.requires.1 in search rules), judged_first _ _ _ _ _ c.requires.2 c.requires.3 c.loop-st.invariant.0 _ c.repeated.ensures c.loop-st-test.true)

pub overflow_add-i : goal.overflow_add-i
overflow_add-i c = let z = judged_inside _ _ _ _ _ c.requires.2 c.requires.3 c.loop-st.invariant.0 _ c.repeated.ensures c.loop-st-test.true in let f = c.requires.1 in search rules

pub loop-st-smaller : goal.loop-st-smaller
loop-st-smaller c = judged_less _ _ _ _ _ c.requires.2 c.requires.3 c.loop-st.invariant.0 _ c.repeated.ensures c.loop-st-test.true

pub loop-st-preserved : goal.loop-st-preserved
loop-st-preserved c = (judged_inside _ _ _ _ _ c.requires.2 c.requires.3 c.loop-st.invariant.0 _ c.repeated.ensures c.loop-st-test.true, judged_more _ _ _ _ _ c.requires.2 c.requires.3 c.loop-st.invariant.0 _ c.repeated.ensures c.loop-st-test.true _ _ c.loop-st.invariant.1 _ c.own_dwords.ensures _ c.sound_object.ensures c.if-sound_object.true)
