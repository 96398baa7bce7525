use Rattle.std.proofs.Common.{arith, length-set}
use Rattle.forwards.proofs.Stores.{loaded_turn, loaded}
use Rattle.forwards.proofs.blocks.load_eight.Goals as goal

pub loop-i-preserved : goal.loop-i-preserved
loop-i-preserved c =
    let a = c.args in
    let l = c.loop-i in
    record {
      within = omega arith;
      long = simp length-set l.invariant.long;
      loaded = loaded_turn 8 a.bytes.now a.at (omega arith) l.block l.i (omega arith) l.invariant.long l.invariant.loaded;
    }

pub returns : goal.returns
returns c =
    let a = c.args in
    let l = c.loop-i in
    loaded 8 a.bytes.now a.at (omega arith) l.block l.i c.loop-i-test.false l.invariant.long l.invariant.loaded
