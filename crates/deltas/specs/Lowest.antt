-- The lowest delta by the code's numbers: a mask of eight, and VFE dwords 6 and 7. `lowest_at_lem` of runs/proofs/Lowest.antt shows that it
-- is the lowest delta of the objects.
use Rattle.std.specs.Prelude.{ℕ, ◌+◌, ◌-◌, ◌%◌, ◌^◌, Bool, ◌&&◌, ◌==◌}
use Rattle.laws.specs.BitRanges.{bits, field}
use Rattle.deltas.specs.Deltas.{delta_dword, byte_low, delta_x, delta_y}
use Rattle.deltas.specs.InPlay.{bit_set}
use Rattle.deltas.specs.Meets.{meets_at}
use Rattle.laws.specs.Find.{find_first}

unfoldable pub leads_at : ℕ → ℕ → ℕ → ℕ → ℕ → ℕ → ℕ → ℕ → Bool
leads_at x y mask d6 d7 jx jy i = bit_set i mask && meets_at x y (delta_x d6 d7 i) (delta_y d6 d7 i) jx jy

unfoldable pub lowest_at : ℕ → ℕ → ℕ → ℕ → ℕ → ℕ → ℕ → ℕ
lowest_at x y mask d6 d7 jx jy = find_first 8 (leads_at x y mask d6 d7 jx jy)

-- The code searches by bytes; `lowest_found` and `lowest_none` of proofs/Bytes.antt show that this finds the same delta.

-- the byte of delta i
unfoldable pub delta_byte : ℕ → ℕ → ℕ → ℕ
delta_byte d6 d7 i = field (bits (byte_low i + 7) (byte_low i)) (delta_dword d6 d7 i)

-- the half byte of a delta from one coordinate to another: their difference modulo 16
unfoldable pub half_to : ℕ → ℕ → ℕ
half_to x to = (to + (2 ^ 32 - x)) % 16

unfoldable pub is_byte : ℕ → ℕ → ℕ → ℕ → ℕ → Bool
is_byte mask d6 d7 byte i = bit_set i mask && delta_byte d6 d7 i == byte

unfoldable pub lowest_byte : ℕ → ℕ → ℕ → ℕ → ℕ
lowest_byte mask d6 d7 byte = find_first 8 (is_byte mask d6 d7 byte)
