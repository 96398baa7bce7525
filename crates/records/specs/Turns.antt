-- One turn of the second pass, which meets no refusal and goes on as the first pass did. proofs/Fills.antt shows that turn by turn these
-- are the records of the reading.
use Rattle.std.specs.Prelude.{List, ℕ, ◌+◌, ◌*◌, ◌≤◌, length, drop, Option, Some, None}
use Rattle.command.specs.declared.State.{State}
use Rattle.words.specs.Dwords.{Buffer, put_in}
use Rattle.record.specs.Record.{record_of}
use Rattle.reading.specs.declared.Place.{Place}
use Rattle.reading.specs.Reading.{Whole}
use Rattle.reading.specs.Turns.{Turn, Refused, Last, Next, here, walk, Header}
use Rattle.records.specs.Records.{put_words, written}

abbrev pub Passes : Turn → Type 0
Passes (Refused f) = ⊥
Passes Last = Unit
Passes (Next t s) = Unit

-- `stored` says how a slice is stored to.
module _ {E : Type 0} (stored : List E → ℕ → ℕ → List E) where
  -- a record buffer with the record of the command at a place of the batch b
  abbrev pub with_record : List ℕ → ℕ → State → Buffer E → Buffer E
  with_record b at st r = put_words (put_in stored) r st.commands (record_of (here (drop at b) at st)) 16

  -- a record buffer with the records of the commands from a place of the batch b on
  unfoldable pub records_from : List ℕ → ℕ → State → Buffer E → Buffer E
  records_from b at st r = written (put_in stored) (walk (drop at b) 0 at st).passed st.commands r

  -- the record buffer, with the records from where the pass goes on
  unfoldable pub rest_of : List ℕ → Option Place → Buffer E → Buffer E
  rest_of b None r = r
  rest_of b (Some p) r = records_from b p.at p.st r

-- What the second pass keeps: from a place on the batch b, which is within the limit, is read to its END, and so many words have room for
-- the records.
pub record Left (b : List ℕ) (at : ℕ) (st : State) (room : ℕ) : Type 0 where
  pub limit : length b ≤ 16384
  pub commands : st.commands ≤ at
  pub objects : st.objects ≤ at
  pub whole : Whole (walk (drop at b) 0 at st).stop
  pub fits : 16 * (st.commands + length (walk (drop at b) 0 at st).passed) ≤ room

-- where the pass goes on: from a place at or after `low`
unfoldable pub GoesOn : List ℕ → ℕ → ℕ → Option Place → Type 0
GoesOn b low room None = Unit
GoesOn b low room (Some p) = (low ≤ p.at) × Left b p.at p.st room

-- the next commands from there may be those of a header
unfoldable pub MayRepeat : ℕ → ℕ → Option Place → Type 0
MayRepeat k d None = Unit
MayRepeat k d (Some p) = Header p.st.chip k d
