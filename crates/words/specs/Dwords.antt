-- Little-endian dwords in bytes, and a slice of dwords or of bytes that a caller lends. Assumes nothing.
use Rattle.std.specs.Prelude.{ℕ, ◌+◌, ◌*◌, ◌/◌, ◌%◌, ◌^◌, List, [], ◌∷◌, get_or, set}

-- the dword in the four bytes from an index on, the low byte first
abbrev pub le_at : List ℕ → ℕ → ℕ
le_at l k = get_or l k 0 + 256 * get_or l (k + 1) 0 + 65536 * get_or l (k + 2) 0 + 16777216 * get_or l (k + 3) 0

-- the whole dwords of a list of bytes; up to three bytes that are left over are part of none
unfoldable pub dwords_of : List ℕ → List ℕ
dwords_of (a ∷ b ∷ c ∷ d ∷ l) = (a + 256 * b + 65536 * c + 16777216 * d) ∷ dwords_of l
dwords_of (a ∷ b ∷ c ∷ []) = []
dwords_of (a ∷ b ∷ []) = []
dwords_of (a ∷ []) = []
dwords_of [] = []

-- bytes with dword k, which is v, stored: four bytes, the low byte first
abbrev pub put_le : List ℕ → ℕ → ℕ → List ℕ
put_le l k v =
    set (set (set (set l (4 * k) (v % 2 ^ 8))
    (4 * k + 1) (v / 2 ^ 8 % 2 ^ 8))
    (4 * k + 2) (v / 2 ^ 16 % 2 ^ 8))
    (4 * k + 3) (v / 2 ^ 24 % 2 ^ 8)

-- A buffer that is lent, of dwords or of bytes: what its slice holds, and the dwords that stand there.
pub record Buffer (E : Type 0) : Type 0 where
  pub items : List E
  pub view : List ℕ

-- a lent buffer, by what its slice holds and by how that is read as dwords
abbrev pub lent_buffer : {E : Type 0} → (List E → List ℕ) → List E → Buffer E
lent_buffer dwords l = record { items = l; view = dwords l }

-- a buffer with dword k, which is v, stored, by how a slice is stored to
abbrev pub put_in : {E : Type 0} → (List E → ℕ → ℕ → List E) → Buffer E → ℕ → ℕ → Buffer E
put_in stored b k v = record { items = stored b.items k v; view = set b.view k v }
