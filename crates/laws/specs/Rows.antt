-- A table of document 01: rows, each with what it gives and when it holds, of which the first that holds decides. Assumes nothing.
use Rattle.std.specs.Prelude.{Bool, cond, List, [], ◌∷◌}

pub record Row (A : Type 0) : Type 0 where
  pub gives : A
  pub holds : Bool

abbrev pub row : {A : Type 0} → A → Bool → Row A
row x t = record { gives = x; holds = t }

-- what the first row that holds gives, and `otherwise` where none does
abbrev pub first_row : {A : Type 0} → A → List (Row A) → A
first_row otherwise [] = otherwise
first_row otherwise (r ∷ rs) = cond r.holds r.gives (first_row otherwise rs)
