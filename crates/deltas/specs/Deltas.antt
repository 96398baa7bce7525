-- A VFE's deltas: document 01, "The command words".
use Rattle.std.specs.Prelude.{ℕ, ◌+◌, ◌*◌, ◌%◌, cond, ℤ, pos, nat_lt}
use Rattle.std.proofs.Math.IntN.{sub_ℕ}
use Rattle.laws.specs.BitRanges.{bits, field}

-- "each is a four-bit two's complement number from -8 to 7": n, or n - 16 from 8 on
unfoldable pub delta_of : ℕ → ℤ
delta_of n = cond (nat_lt n 8) (pos n) (sub_ℕ n 16)

-- "Dwords 6 (deltas 0 to 3) and 7 (4 to 7)"
unfoldable pub delta_dword : ℕ → ℕ → ℕ → ℕ
delta_dword d6 d7 i = cond (nat_lt i 4) d6 d7

-- they "give a byte to each delta": the low bit of the byte of delta i
abbrev pub byte_low : ℕ → ℕ
byte_low i = 8 * (i % 4)

-- "X in the low half, Y in the high"
unfoldable pub delta_x : ℕ → ℕ → ℕ → ℤ
delta_x d6 d7 i = delta_of (field (bits (byte_low i + 3) (byte_low i)) (delta_dword d6 d7 i))

unfoldable pub delta_y : ℕ → ℕ → ℕ → ℤ
delta_y d6 d7 i = delta_of (field (bits (byte_low i + 7) (byte_low i + 4)) (delta_dword d6 d7 i))
