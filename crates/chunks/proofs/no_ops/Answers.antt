use mathlib.Core.Path.{refl}
use native.Mathlib.Omega.{arith}
use Rattle.judge.proofs.Vouching.{no_op_vouches}
use Rattle.reading.proofs.NoOps.{no_op_total, no_op_header}
use Rattle.chunks.proofs.Turns.{again_own, again_first, again_less, again_kept, led_then}
use borrow.Author.Rules.{rules}
use Rattle.chunks.proofs.no_ops.Goals as goal

pub returns : goal.returns
returns c =
    let v = c.loop-h.invariant in
    led_then _ _ _ _ _ _ _ _ v.0 (λ e. search rules) (λ e. v.2 (let z = v.0.forth in search rules)) c.then_some.ensures

pub repeated-requires : goal.repeated-requires
repeated-requires c = (c.loop-h.invariant.0.ready.inside, search rules)

pub own_dwords-h-requires : goal.own_dwords-h-requires
own_dwords-h-requires c = (again_own _ _ _ _ _ _ _ _ 0 0 1 _ c.loop-h.invariant.0 (no_op_header _) refl no_op_total _ c.repeated.ensures c.loop-h-test.true, let q = c.loop-h.invariant.0.ready in let a = q.inside in let b = q.few in search rules, again_first _ _ _ _ _ _ _ _ 0 0 1 _ c.loop-h.invariant.0 (no_op_header _) refl no_op_total _ c.repeated.ensures c.loop-h-test.true)

pub loop-h-smaller : goal.loop-h-smaller
loop-h-smaller c = again_less _ _ _ _ _ _ _ _ 0 0 1 _ c.loop-h.invariant.0 (no_op_header _) refl no_op_total _ c.repeated.ensures c.loop-h-test.true

pub loop-h-preserved : goal.loop-h-preserved
loop-h-preserved c = (again_kept _ _ _ _ _ _ _ _ 0 0 1 _ c.loop-h.invariant.0 (no_op_header _) refl no_op_total _ c.repeated.ensures c.loop-h-test.true _ c.own_dwords-h.ensures _ c.after-st.ensures _ _ (no_op_vouches _ _ _ refl) refl c.write_record.ensures, let q = c.loop-h.invariant.1 in search rules, λ e. let z = c.loop-h.invariant.0.forth in absurd (omega arith))
