-- What a listing program's run did, where it printed a listing, and what it says where it did not.
use Rattle.std.specs.Prelude.{Option, List, ℕ, length, codes}
use Rattle.std.specs.Io.KnownBytes.{Consumes, Appends}
use Rattle.chips.specs.declared.Chip.{Chip}
use Rattle.listing.specs.Listing.{text_of}
use Rattle.lister.specs.declared.Failure.{Failure}
use Rattle.lister.specs.declared.Failure.TheVariants.{Input, Output}
use Rattle.lister.specs.Listed.{Exhausts}

-- The bytes that a reader had left before and has left after, those that a writer held before and holds after, where they are known. What was
-- read is all that the reader had, or one byte more than the listing takes, and its listing was written.
pub record Printed (chip : Chip) (left left' held held' : Option (List ℕ)) : Type 0 where
  pub input : List ℕ
  pub read : Consumes left left' input
  pub end : Exhausts (length input) 4097 left'
  pub listed : Appends held held' (text_of chip input)

abbrev pub message : Failure → List ℕ
message Input = codes "standard input: cannot be read"
message Output = codes "standard output: cannot be written"
