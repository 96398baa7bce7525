-- A quick test for the search of 25, which passes over most objects: one that fails it is an object that no delta leads to (`unreached` of
-- proofs/Reached.antt). Whether a delta does lead to one that passes, `lowest_at` says.
use Rattle.std.specs.Prelude.{ℕ, zero, suc, ◌+◌, ◌-◌, ◌*◌, ◌/◌, ◌%◌, ◌^◌, Bool, cond, not, ◌&&◌, List, [], ◌∷◌, replicate, bit_or, slice_index, slice_set}
use Rattle.laws.specs.BitRanges.{Bits, bits, any_set}
use Rattle.deltas.specs.InPlay.{bit_set}
use Rattle.deltas.specs.Lowest.{delta_byte}

-- a position as one number
abbrev pub place_of : ℕ → ℕ → ℕ
place_of x y = x + 2 ^ 32 * y

-- a less b, modulo 2^64
abbrev pub less : ℕ → ℕ → ℕ
less a b = (a + (2 ^ 64 - b)) % 2 ^ 64

-- a delta leads back by 8 at most, in X and in Y
abbrev pub furthest_back : ℕ
furthest_back = place_of 8 8

-- so far back from (x, y): from there every delta leads 0 to 15 on
unfoldable pub corner_of : ℕ → ℕ → ℕ
corner_of x y = less (place_of x y) furthest_back

-- so far on in X and in Y, by the delta's byte
abbrev pub column_of : ℕ → ℕ
column_of byte = (byte + 8) % 16

abbrev pub row_of : ℕ → ℕ
row_of byte = (byte / 16 + 8) % 16

-- a table of 16 rows, with a bit for each column: set for the byte of delta i, if that one is in the mask
unfoldable pub with_delta : ℕ → ℕ → ℕ → ℕ → List ℕ → List ℕ
with_delta mask d6 d7 i rows =
    let b = delta_byte d6 d7 i in
    cond (bit_set i mask) (slice_set rows (row_of b) (bit_or (slice_index rows (row_of b)) (2 ^ column_of b))) rows

-- set for the first n deltas, for all eight
unfoldable pub rows_to : ℕ → ℕ → ℕ → ℕ → List ℕ
rows_to mask d6 d7 zero = replicate 16 0
rows_to mask d6 d7 (suc i) = with_delta mask d6 d7 i (rows_to mask d6 d7 i)

unfoldable pub rows_of : ℕ → ℕ → ℕ → List ℕ
rows_of mask d6 d7 = rows_to mask d6 d7 8

-- the bits that are set where a place is 16 or more from the corner in X or in Y
abbrev pub beyond : List Bits
beyond = bits 63 36 ∷ bits 31 4 ∷ []

-- is a place less than 16 from the corner, in X and in Y?
abbrev pub near_to : ℕ → ℕ → Bool
near_to corner place = not (any_set beyond (less place corner))

-- is the bit set for a place?
unfoldable pub reached_from : ℕ → List ℕ → ℕ → Bool
reached_from corner rows place =
    let off = less place corner in
    near_to corner place && bit_set (off % 16) (slice_index rows (off / 2 ^ 32 % 16))
