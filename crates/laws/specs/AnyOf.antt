-- A list of tests, of which one is to pass. Assumes nothing.
use Rattle.std.specs.Prelude.{Bool, false, ◌||◌, List, [], ◌∷◌}

abbrev pub any_of : List Bool → Bool
any_of [] = false
any_of (t ∷ ts) = t || any_of ts
