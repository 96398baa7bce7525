-- The refusals of a batch: the table of document 01, and those that document 02 adds.
use Rattle.std.specs.Prelude.{ℕ, ◌≡◌, [], ◌∷◌, map}
use Rattle.chips.specs.declared.Refusal.{Refusal}
use Rattle.chips.specs.declared.Refusal.TheVariants.{TooLong, NoEnd, UnknownCommand, LengthField, Truncated, MustBeZero, Alignment, Order, Capacity, NoRoom, PartialDword, UnknownChip, AlreadyAnswered}

-- the paper's number of each
abbrev pub number_of_refusal : Refusal → ℕ
number_of_refusal TooLong = 1
number_of_refusal NoEnd = 2
number_of_refusal UnknownCommand = 3
number_of_refusal LengthField = 4
number_of_refusal Truncated = 5
number_of_refusal MustBeZero = 6
number_of_refusal Alignment = 7
number_of_refusal Order = 8
number_of_refusal Capacity = 9
number_of_refusal NoRoom = 10
number_of_refusal PartialDword = 17
number_of_refusal UnknownChip = 18
number_of_refusal AlreadyAnswered = 19

-- The table's rows 3 to 9, in its order: what is claimed of 8 or of 9 is claimed of the refusal that has this number here.
abbrev pub RowsNumbered : Type 0
RowsNumbered =
    map number_of_refusal (UnknownCommand ∷ LengthField ∷ Truncated ∷ MustBeZero ∷ Alignment ∷ Order ∷ Capacity ∷ [])
    ≡ 3 ∷ 4 ∷ 5 ∷ 6 ∷ 7 ∷ 8 ∷ 9 ∷ []
