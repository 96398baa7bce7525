-- The numbers of a command's refusals. Assumes nothing.
use mathlib.Core.Path.{refl}
use Rattle.chips.specs.Refusals.{RowsNumbered}

pub rows_numbered : RowsNumbered
rows_numbered = refl
