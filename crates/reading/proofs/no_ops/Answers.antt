use mathlib.Core.Path.{◌∙◌}
use native.Mathlib.Omega.{arith}
use Rattle.reading.proofs.NoOps.{no_op_header, no_ops_scan}
use Rattle.reading.proofs.no_ops.Goals as goal

pub loop-at-preserved : goal.loop-at-preserved
loop-at-preserved g c = let z = (c.four_no_ops.ensures c.loop-at-test.true).inside in let v = c.loop-at.invariant in let p = c.requires in let q = v.0.1 in let o = v.0.2 in let f = v.1 in ((omega arith, omega arith, omega arith), omega arith, no_ops_scan 4 _ _ _ (c.four_no_ops.ensures c.loop-at-test.true) ∙ v.2)

pub again-requires : goal.again-requires
again-requires g c = let p = c.requires in (p.0, c.loop-at.invariant.0, no_op_header _)
