use Rattle.progress.proofs.Leaves.{stores}
use Rattle.progress.proofs.store.Goals as goal

pub returns-then-i-records : goal.returns-then-i-records
returns-then-i-records c = search stores

pub returns-else-i-records : goal.returns-else-i-records
returns-else-i-records c = search stores
