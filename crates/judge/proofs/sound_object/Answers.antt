use Rattle.judge.proofs.Vouching.{object_vouches}
use Rattle.judge.proofs.sound_object.Goals as goal

pub returns-then-st-le64 : goal.returns-then-st-le64
returns-then-st-le64 c = search object_vouches
