-- Bytes as dwords: how many, which, and what a stored dword leaves. Assumes nothing.
use mathlib.Core.Path.{◌≡◌, refl, sym, ap, ◌∙◌}
use Prim.Native.Nat.{ℕ, zero, suc, ◌+◌, ◌*◌, ◌/◌, ◌%◌, ◌^◌, ◌<◌, ◌≤◌}
use native.Mathlib.Nat.{mod-eq_of_lt, div-add-mod'}
use native.Mathlib.Omega.{arith}
use mathlib.Core.List.{List, [], ◌∷◌}
use lib.ListN.{length, get_or, set, length-set}
use lib.Seq.{get_or-set_other}
use mathlib.Core.Logic.{◌≢◌}
use Rattle.words.specs.Lengths.{length_dwords}
use Rattle.words.specs.Dwords.{le_at, dwords_of, put_le, lent_buffer, put_in}

shift4 : (a b c d : ℕ) (l : List ℕ) (k m : ℕ) → m ≡ 4 + k → get_or (a ∷ b ∷ c ∷ d ∷ l) m 0 ≡ get_or l k 0
shift4 a b c d l k m e = let z : m ≡ suc (suc (suc (suc k))) = omega arith in rw z

le4 : (a b c d : ℕ) (l : List ℕ) (j : ℕ) → le_at (a ∷ b ∷ c ∷ d ∷ l) (4 * suc j) ≡ le_at l (4 * j)
le4 a b c d l j =
    simp (
      shift4 a b c d l (4 * j) (4 * suc j) (omega arith),
      shift4 a b c d l (4 * j + 1) (4 * suc j + 1) (omega arith),
      shift4 a b c d l (4 * j + 2) (4 * suc j + 2) (omega arith),
      shift4 a b c d l (4 * j + 3) (4 * suc j + 3) (omega arith),
    )

-- dword j of the bytes is the four from 4 j on
pub get_or_dwords : (l : List ℕ) (j : ℕ) → j < length l / 4 → get_or (dwords_of l) j 0 ≡ le_at l (4 * j)
unfolding dwords_of
get_or_dwords (a ∷ b ∷ c ∷ d ∷ l) zero h = refl
get_or_dwords (a ∷ b ∷ c ∷ d ∷ l) (suc j) h =
    get_or_dwords l j (omega arith) ∙ sym (le4 a b c d l j)
get_or_dwords (a ∷ b ∷ c ∷ []) j h = let z : j < 0 = h in omega arith
get_or_dwords (a ∷ b ∷ []) j h = let z : j < 0 = h in omega arith
get_or_dwords (a ∷ []) j h = let z : j < 0 = h in omega arith
get_or_dwords [] j h = let z : j < 0 = h in omega arith

-- what `held` and `word` show of bytes
pub held_bytes : (by : List ℕ) → length by / 4 ≡ length (dwords_of by)
held_bytes by = sym (length_dwords by)

pub word_bytes : (by : List ℕ) (i r : ℕ) → i < length (dwords_of by) → r ≡ le_at by (4 * i) → r ≡ get_or (dwords_of by) i 0
word_bytes by i r h e = let m = held_bytes by in e ∙ sym (get_or_dwords by i (omega arith))

-- an index below the number of dwords is four bytes of the bytes lent
pub index_bytes : (by : List ℕ) (i : ℕ) → i < length (dwords_of by) → 4 * i + 3 < length by
index_bytes by i h = let m = held_bytes by in omega arith

pub length-put : (l : List ℕ) (k v : ℕ) → length (put_le l k v) ≡ length l
length-put l k v = simp length-set

pub ruleset source = (held_bytes, word_bytes, index_bytes)

-- a stored dword, among the dwords of the bytes
set4 : (a b c d : ℕ) (l : List ℕ) (k m v : ℕ) → m ≡ 4 + k → set (a ∷ b ∷ c ∷ d ∷ l) m v ≡ a ∷ b ∷ c ∷ d ∷ set l k v
set4 a b c d l k m v e = let z : m ≡ suc (suc (suc (suc k))) = omega arith in rw z

put4 : (a b c d : ℕ) (l : List ℕ) (k v : ℕ) → put_le (a ∷ b ∷ c ∷ d ∷ l) (suc k) v ≡ a ∷ b ∷ c ∷ d ∷ put_le l k v
put4 a b c d l k v =
    simp (
      set4 a b c d l (4 * k) (4 * suc k) (v % 2 ^ 8) (omega arith),
      set4 a b c d (set l (4 * k) (v % 2 ^ 8)) (4 * k + 1) (4 * suc k + 1) (v / 2 ^ 8 % 2 ^ 8) (omega arith),
      set4 a b c d (set (set l (4 * k) (v % 2 ^ 8)) (4 * k + 1) (v / 2 ^ 8 % 2 ^ 8)) (4 * k + 2) (4 * suc k + 2) (v / 2 ^ 16 % 2 ^ 8) (omega arith),
      set4 a b c d (set (set (set l (4 * k) (v % 2 ^ 8)) (4 * k + 1) (v / 2 ^ 8 % 2 ^ 8)) (4 * k + 2) (v / 2 ^ 16 % 2 ^ 8)) (4 * k + 3) (4 * suc k + 3) (v / 2 ^ 24 % 2 ^ 8) (omega arith),
    )

-- a dword is its four bytes
four_bytes : (v : ℕ) → v % 2 ^ 8 + 256 * (v / 2 ^ 8 % 2 ^ 8) + 65536 * (v / 2 ^ 16 % 2 ^ 8) + 16777216 * (v / 2 ^ 24 % 2 ^ 8) ≡ v % 2 ^ 32
four_bytes v =
    let a : v / 2 ^ 16 ≡ v / 2 ^ 8 / 2 ^ 8 = omega arith in
    let b : v / 2 ^ 24 ≡ v / 2 ^ 16 / 2 ^ 8 = omega arith in
    let c : v / 2 ^ 32 ≡ v / 2 ^ 24 / 2 ^ 8 = omega arith in
    let p = div-add-mod' v (2 ^ 8) in
    let q = div-add-mod' (v / 2 ^ 8) (2 ^ 8) in
    let r = div-add-mod' (v / 2 ^ 16) (2 ^ 8) in
    let s = div-add-mod' (v / 2 ^ 24) (2 ^ 8) in
    let t = div-add-mod' v (2 ^ 32) in omega arith

dwords_put : (l : List ℕ) (k v : ℕ) → 4 * k + 4 ≤ length l → v < 2 ^ 32 → dwords_of (put_le l k v) ≡ set (dwords_of l) k v
unfolding dwords_of
dwords_put (a ∷ b ∷ c ∷ d ∷ l) zero v p h =
    let e = four_bytes v ∙ mod-eq_of_lt h in
    ap (λ (x : ℕ). x ∷ dwords_of l) e
dwords_put (a ∷ b ∷ c ∷ d ∷ l) (suc k) v p h =
    ap dwords_of (put4 a b c d l k v) ∙ ap (λ (t : List ℕ). (a + 256 * b + 65536 * c + 16777216 * d) ∷ t) (dwords_put l k v (omega arith) h)
dwords_put (a ∷ b ∷ c ∷ []) k v p h = absurd (omega arith)
dwords_put (a ∷ b ∷ []) k v p h = absurd (omega arith)
dwords_put (a ∷ []) k v p h = absurd (omega arith)
dwords_put [] k v p h = absurd (omega arith)

-- what `put` shows of bytes
pub stored_bytes : (by by' : List ℕ) (k v : ℕ) → k < length (dwords_of by) → v < 2 ^ 32 → by' ≡ put_le by k v → lent_buffer dwords_of by' ≡ put_in put_le (lent_buffer dwords_of by) k v
stored_bytes by by' k v h p e =
    let m = index_bytes by k h in
    λ j. record { items = e j; view = (ap dwords_of e ∙ dwords_put by k v (omega arith) p) j }

-- a stored dword, byte by byte and dword by dword
pub put_other : (l : List ℕ) (k v p : ℕ) → p / 4 ≢ k → get_or (put_le l k v) p 0 ≡ get_or l p 0
put_other l k v p n =
    simp (
      get_or-set_other (set (set (set l (4 * k) (v % 2 ^ 8)) (4 * k + 1) (v / 2 ^ 8 % 2 ^ 8)) (4 * k + 2) (v / 2 ^ 16 % 2 ^ 8)) (4 * k + 3) p (v / 2 ^ 24 % 2 ^ 8) 0 (λ e. n (omega arith)),
      get_or-set_other (set (set l (4 * k) (v % 2 ^ 8)) (4 * k + 1) (v / 2 ^ 8 % 2 ^ 8)) (4 * k + 2) p (v / 2 ^ 16 % 2 ^ 8) 0 (λ e. n (omega arith)),
      get_or-set_other (set l (4 * k) (v % 2 ^ 8)) (4 * k + 1) p (v / 2 ^ 8 % 2 ^ 8) 0 (λ e. n (omega arith)),
      get_or-set_other l (4 * k) p (v % 2 ^ 8) 0 (λ e. n (omega arith)),
    )

pub put_apart : (l : List ℕ) (k v j : ℕ) → j ≢ k → le_at (put_le l k v) (4 * j) ≡ le_at l (4 * j)
put_apart l k v j n =
    simp (
      put_other l k v (4 * j) (λ e. n (omega arith)),
      put_other l k v (4 * j + 1) (λ e. n (omega arith)),
      put_other l k v (4 * j + 2) (λ e. n (omega arith)),
      put_other l k v (4 * j + 3) (λ e. n (omega arith)),
    )

pub put_same : (l : List ℕ) (k v : ℕ) → k < length l / 4 → le_at (put_le l k v) (4 * k) ≡ v % 2 ^ 32
put_same (a ∷ b ∷ c ∷ d ∷ l) zero v h = four_bytes v
put_same (a ∷ b ∷ c ∷ d ∷ l) (suc k) v h =
    ap (λ (x : List ℕ). le_at x (4 * suc k)) (put4 a b c d l k v)
    ∙ le4 a b c d (put_le l k v) k
    ∙ put_same l k v (omega arith)
put_same (a ∷ b ∷ c ∷ []) k v h = let z : k < 0 = h in absurd (omega arith)
put_same (a ∷ b ∷ []) k v h = let z : k < 0 = h in absurd (omega arith)
put_same (a ∷ []) k v h = let z : k < 0 = h in absurd (omega arith)
put_same [] k v h = let z : k < 0 = h in absurd (omega arith)

pub ruleset stores = (index_bytes, stored_bytes)
