use Rattle.std.proofs.Common.{refl, ap, ◌∙◌, arith, le_antisymm}
use Rattle.std.proofs.Math.Seq.{paste, paste-zero}
use Rattle.forwards.proofs.Stores.{copied_turn}
use Rattle.forwards.proofs.blocks.store.Goals as goal

pub loop-i-init : goal.loop-i-init
loop-i-init c = record { within = omega arith; stored = paste-zero c.args.bytes.now c.args.at c.args.block }

pub loop-i-preserved : goal.loop-i-preserved
loop-i-preserved c =
    let a = c.args in
    let l = c.loop-i in
    record {
      within = omega arith;
      stored = copied_turn a.bytes.now a.at a.block l.i l.bytes _ l.invariant.stored refl (omega arith) (omega arith);
    }

pub returns : goal.returns
returns c =
    let a = c.args in
    c.loop-i.invariant.stored ∙ ap (paste a.bytes.now a.at a.block) (le_antisymm c.loop-i.invariant.within c.loop-i-test.false)
