use Rattle.judge.proofs.Vouching.{no_op_vouches}
use Rattle.judge.proofs.sound.Goals as goal

pub returns-in-0 : goal.returns-in-0
returns-in-0 c = no_op_vouches _ _ _ c.in-0.is
