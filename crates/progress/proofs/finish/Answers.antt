use Rattle.progress.proofs.Leaves.{end_settled}
use Rattle.progress.proofs.finish.Goals as goal

pub returns : goal.returns
returns c = end_settled _ _ _ c.requires.1 _ _ _ _ c.after.ensures c.open.ensures c.write_record.ensures
