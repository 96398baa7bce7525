-- What a listing program prints, of what it read: document 01, "For a program the claim is of the bytes made for printing from what it
-- read".
use Rattle.std.specs.Prelude.{◌≡◌, ◌⊎◌, Option, Result, Ok, Err, List, ℕ, length, take}
use Rattle.std.specs.Io.KnownBytes.{IsAtEnd}
use Rattle.chips.specs.declared.Chip.{Chip}
use Rattle.listing.specs.Listing.{text_of, listed_in}
use Rattle.lister.specs.declared.Listed.{Listed}
use Rattle.lister.specs.declared.ReadFailed.{ReadFailed}

-- how many bytes were read
abbrev pub count_of : Result ℕ ReadFailed → ℕ
count_of (Ok n) = n
count_of (Err e) = e.bytes

abbrev pub bytes_of : Result Listed ReadFailed → ℕ
bytes_of (Ok r) = r.bytes
bytes_of (Err e) = e.bytes

-- how many bytes the text has: where a read failed nothing is listed
abbrev pub length_of : Result Listed ReadFailed → ℕ
length_of (Ok r) = r.length
length_of (Err e) = 0

-- the text buffer at exit, by the input buffer at exit, which holds what was read, and the text buffer at entry: where a read failed
-- nothing is listed. Whether one failed is free: what the reader's `read` says.
abbrev pub text_after : Chip → Result Listed ReadFailed → List ℕ → List ℕ → List ℕ
text_after chip (Ok r) input text = listed_in chip (take r.bytes input) text
text_after chip (Err e) input text = text

-- how many bytes of it are to be printed
abbrev pub to_print : Chip → Result Listed ReadFailed → List ℕ → ℕ
to_print chip (Ok r) input = length (text_of chip (take r.bytes input))
to_print chip (Err e) input = 0

-- as many bytes were read as the buffer takes, or as the reader had, where that is known
abbrev pub Exhausts : ℕ → ℕ → Option (List ℕ) → Type 0
Exhausts n size left = (n ≡ size) ⊎ IsAtEnd left
