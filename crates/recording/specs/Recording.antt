-- A recording's header, and why a whole recording is refused: document 01, "The gateway recording".
use Rattle.std.specs.Prelude.{ℕ, ◌+◌, ◌*◌, ◌-◌, Bool, not, ◌&&◌, List, [], ◌∷◌, ◌++◌, ltb, eqb, length, take, drop, replicate}
use Rattle.laws.specs.Rows.{Row, row, first_row}
use Rattle.laws.specs.Find.{find_first}
use Rattle.event.specs.declared.Setup.{Setup}
use Rattle.event.specs.Head.{byte_at, half_at}
use Rattle.event.specs.Groups.{no_group}

-- "House layout, little-endian: `GWR`; 16-bit version, 1; thread count; bypass 0 or 1; 16-bit event count; a zero byte; one barrier group
-- byte per thread (0 to 15, or 255 for none); events."
abbrev pub marked : List ℕ → Bool
marked rec = eqb (byte_at rec 0) 71 && (eqb (byte_at rec 1) 87 && eqb (byte_at rec 2) 82)

abbrev pub version_of : List ℕ → ℕ
version_of rec = half_at rec 3

abbrev pub threads_of : List ℕ → ℕ
threads_of rec = byte_at rec 5

abbrev pub bypass_of : List ℕ → ℕ
bypass_of rec = byte_at rec 6

abbrev pub events_of : List ℕ → ℕ
events_of rec = half_at rec 7

abbrev pub group_byte : List ℕ → ℕ → ℕ
group_byte rec t = byte_at rec (10 + t)

-- a group byte that is neither a barrier's number nor 255
abbrev pub stray_group : List ℕ → ℕ → Bool
stray_group rec t = ltb 15 (group_byte rec t) && not (eqb (group_byte rec t) no_group)

-- the threads' group bytes; no thread above them has a group
unfoldable pub groups_of : List ℕ → List ℕ
groups_of rec = take (threads_of rec) (drop 10 rec) ++ replicate (16 - threads_of rec) no_group

unfoldable pub setup_of : List ℕ → Setup
setup_of rec = record { threads = threads_of rec; bypass = bypass_of rec; groups = groups_of rec }

-- "each event's 48 bytes are handed to the step as a part of the recording"
abbrev pub first_event : List ℕ → ℕ
first_event rec = 10 + threads_of rec

abbrev pub event_at : List ℕ → ℕ → List ℕ
event_at rec i = take 48 (drop (first_event rec + 48 * i) rec)

-- "Whole recording refused, in order, nothing lent changed": rows 11 to 13 read the header's ten bytes alone.
abbrev pub header_rows : List ℕ → List (Row ℕ)
header_rows rec =
    -- "11 under 10 bytes or wrong mark; 12 version"
    row 11 (ltb (length rec) 10)
    ∷ row 11 (not (marked rec))
    ∷ row 12 (not (eqb (version_of rec) 1))
    -- "13 threads not 1 to 16, bypass over 1, or byte 9 not zero"
    ∷ row 13 (eqb (threads_of rec) 0)
    ∷ row 13 (ltb 16 (threads_of rec))
    ∷ row 13 (ltb 1 (bypass_of rec))
    ∷ row 13 (not (eqb (byte_at rec 9) 0))
    ∷ []

-- the first thread with a stray group byte, and the thread count where none has one
unfoldable pub stray_group_of : List ℕ → ℕ
stray_group_of rec = find_first (threads_of rec) (stray_group rec)

-- "14 length is not 10 + threads + 48 x events"
abbrev pub length_row : List ℕ → Row ℕ
length_row rec = row 14 (not (eqb (length rec) (10 + threads_of rec + 48 * events_of rec)))

-- Rows 14 to 16: the lent buffers count by their lengths.
module _ (rec : List ℕ) (registers counts outcomes : ℕ) where
  abbrev pub length_rows : List (Row ℕ)
  length_rows =
      length_row rec
      -- "15 group byte"
      ∷ row 15 (ltb (stray_group_of rec) (threads_of rec))
      -- "16 lent registers not 4,096 bytes a thread, counts not two a thread (N0, then N2), or fewer outcome bytes than events"
      ∷ row 16 (not (eqb registers (4096 * threads_of rec)))
      ∷ row 16 (not (eqb counts (2 * threads_of rec)))
      ∷ row 16 (ltb outcomes (events_of rec))
      ∷ []

  -- the number of the first row that holds, 0 where none does
  unfoldable pub length_refusal_of : ℕ
  length_refusal_of = first_row 0 length_rows

  unfoldable pub refusal_of : ℕ
  refusal_of = first_row 0 (header_rows rec ++ length_rows)

-- "A recording refused with 11 to 14 has no events": rows 11 to 14 alone
unfoldable pub form_refusal_of : List ℕ → ℕ
form_refusal_of rec = first_row 0 (header_rows rec ++ length_row rec ∷ [])
