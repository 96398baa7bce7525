use Rattle.records.proofs.Fills.{left_in}
use Rattle.records.proofs.record_at.Goals as goal

pub word-d-requires : goal.word-d-requires
word-d-requires g c = left_in _ _ _ _ c.requires
