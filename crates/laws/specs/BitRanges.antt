-- Ranges of bits as the manuals print them: the high bit, then the low bit. Assumes nothing.
use Rattle.std.specs.Prelude.{ℕ, ◌+◌, ◌-◌, ◌*◌, ◌/◌, ◌%◌, ◌^◌, Bool, true, false, not, ◌&&◌, ◌||◌, List, [], ◌∷◌, eqb, ltb}

pub record Bits : Type 0 where
  pub high : ℕ
  pub low : ℕ

abbrev pub bits : ℕ → ℕ → Bits
bits h l = record { high = h; low = l }

-- what a dword holds in a range of bits, shifted down to bit 0
unfoldable pub field : Bits → ℕ → ℕ
field r d = d / 2 ^ r.low % 2 ^ (r.high - r.low + 1)

-- is a bit of one of the ranges set?
unfoldable pub any_set : List Bits → ℕ → Bool
any_set [] d = false
any_set (r ∷ rs) d = not (eqb (field r d) 0) || any_set rs d

-- the mask of the ranges
abbrev pub mask_of : List Bits → ℕ
mask_of [] = 0
mask_of (r ∷ rs) = (2 ^ (r.high - r.low + 1) - 1) * 2 ^ r.low + mask_of rs

-- each range stands above all that follow it
abbrev pub apart : List Bits → Bool
apart [] = true
apart (r ∷ rs) = ltb (mask_of rs) (2 ^ r.low) && apart rs
