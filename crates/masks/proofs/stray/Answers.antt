use Rattle.masks.specs.MustBeZero.{marks, marked_bits}
use Rattle.masks.proofs.Masks.{by_chips}
use Rattle.masks.proofs.stray.Goals as goal

-- the table's rule: one computed test against the marks of documents 000 and 003
pub returns : goal.returns
unfolding marks marked_bits
returns c = search (by_chips marked_bits 9 8)
