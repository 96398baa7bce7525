use Rattle.progress.proofs.Leaves.{skip_small, settles}
use Rattle.progress.proofs.settle.Goals as goal

pub halt-requires : goal.halt-requires
halt-requires c = search skip_small

pub returns-in-Err : goal.returns-in-Err
returns-in-Err c = search settles
