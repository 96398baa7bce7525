-- The record buffer word by word: word f of record i stands at `slot i f`, and every word past the records is as it was. Assumes nothing.
use mathlib.Core.Logic.{◌≢◌}
use mathlib.Core.Path.{◌≡◌, refl, sym, ap, subst, ◌∙◌}
use Prim.Native.Nat.{ℕ, zero, suc, ◌+◌, ◌*◌, ◌/◌, ◌%◌, ◌^◌, ◌<◌, ◌≤◌}
use native.Mathlib.Omega.{arith}
use mathlib.Core.List.{List, [], ◌∷◌}
use lib.ListN.{length, get_or, set, length-set}
use lib.Seq.{get_or-set_same, get_or-set_other}
use lib.Dec.{eqb}
use borrow.Author.Tests.{eqb-true, eqb-false}
use Rattle.laws.proofs.Choices.{by_test}
use Rattle.words.specs.Dwords.{le_at, put_le}
use Rattle.words.proofs.Dwords.{length-put, put_other, put_apart, put_same}
use Rattle.command.specs.Order.{Command}
use Rattle.record.specs.Record.{record_of}
use Rattle.records.specs.Records.{slot, put_words, written}

-- A buffer that `put` stores words in: element p is of word `of p`, `view` reads a word, and of a word v stored it reads `low v`; so many
-- elements have room for `room` words.
module _ (put : List ℕ → ℕ → ℕ → List ℕ) (of : ℕ → ℕ) (view : List ℕ → ℕ → ℕ) (low : ℕ → ℕ) (room : ℕ → ℕ)
    (long : (r : List ℕ) (k v : ℕ) → length (put r k v) ≡ length r)
    (other : (r : List ℕ) (k v p : ℕ) → of p ≢ k → get_or (put r k v) p 0 ≡ get_or r p 0)
    (apart : (r : List ℕ) (k v j : ℕ) → j ≢ k → view (put r k v) j ≡ view r j)
    (same : (r : List ℕ) (k v : ℕ) → k < room (length r) → view (put r k v) k ≡ low v) where
  module _ (i : ℕ) (ws : List ℕ) where
    words_length : (r : List ℕ) (k : ℕ) → length (put_words put r i ws k) ≡ length r
    unfolding put_words
    words_length r zero = refl
    words_length r (suc k) = long (put_words put r i ws k) (slot i k) (get_or ws k 0) ∙ words_length r k

    words_past : (r : List ℕ) (k p : ℕ) → 16 * i + k ≤ of p → get_or (put_words put r i ws k) p 0 ≡ get_or r p 0
    unfolding put_words
    words_past r zero p h = refl
    words_past r (suc k) p h = other (put_words put r i ws k) (slot i k) (get_or ws k 0) p (λ e. omega arith) ∙ words_past r k p (omega arith)

    words_before : (r : List ℕ) (k j : ℕ) → j < 16 * i → view (put_words put r i ws k) j ≡ view r j
    unfolding put_words
    words_before r zero j h = refl
    words_before r (suc k) j h = apart (put_words put r i ws k) (slot i k) (get_or ws k 0) j (λ e. omega arith) ∙ words_before r k j h

    words_at : (r : List ℕ) (k f : ℕ) → f < k → slot i f < room (length r) → view (put_words put r i ws k) (slot i f) ≡ low (get_or ws f 0)
    unfolding put_words
    words_at r zero f p q = absurd (omega arith)
    words_at r (suc k) f p q =
        by_test (eqb f k)
        (λ t. let e = eqb-true f k t in
        subst (λ (g : ℕ). view (put_words put r i ws (suc k)) (slot i g) ≡ low (get_or ws g 0)) (sym e)
        (same (put_words put r i ws k) (slot i k) (get_or ws k 0)
        (subst (λ (n : ℕ). slot i k < room n) (sym (words_length r k)) (subst (λ (g : ℕ). slot i g < room (length r)) e q))))
        (λ t. let n : f ≢ k = eqb-false f k t in
        apart (put_words put r i ws k) (slot i k) (get_or ws k 0) (slot i f) (λ e. n (omega arith)) ∙ words_at r k f (omega arith) q)

  written_long : (cs : List Command) (i : ℕ) (r : List ℕ) → length (written put cs i r) ≡ length r
  unfolding written
  written_long [] i r = refl
  written_long (c ∷ cs) i r = written_long cs (i + 1) (put_words put r i (record_of c) 16) ∙ words_length i (record_of c) r 16

  -- every element past the records is as it was
  written_past : (cs : List Command) (i : ℕ) (r : List ℕ) (p : ℕ) → 16 * (i + length cs) ≤ of p → get_or (written put cs i r) p 0 ≡ get_or r p 0
  unfolding written
  written_past [] i r p h = refl
  written_past (c ∷ cs) i r p h =
      written_past cs (i + 1) (put_words put r i (record_of c) 16) p (omega arith) ∙ words_past i (record_of c) r 16 p (omega arith)

  written_before : (cs : List Command) (i : ℕ) (r : List ℕ) (j : ℕ) → j < 16 * i → view (written put cs i r) j ≡ view r j
  unfolding written
  written_before [] i r j h = refl
  written_before (c ∷ cs) i r j h =
      written_before cs (i + 1) (put_words put r i (record_of c) 16) j (omega arith) ∙ words_before i (record_of c) r 16 j h

  -- word f of record m
  written_at : (cs : List Command) (i : ℕ) (r : List ℕ) (m f : ℕ) (z : Command) → 16 * (i + length cs) ≤ room (length r) → m < length cs → f < 16 →
      view (written put cs i r) (slot (i + m) f) ≡ low (get_or (record_of (get_or cs m z)) f 0)
  unfolding written
  written_at [] i r m f z h p q = absurd (omega arith)
  written_at (c ∷ cs) i r zero f z h p q =
      let e : slot (i + 0) f ≡ slot i f = omega arith in
      written_before cs (i + 1) (put_words put r i (record_of c) 16) (slot (i + 0) f) (omega arith)
      ∙ ap (view (put_words put r i (record_of c) 16)) e
      ∙ words_at i (record_of c) r 16 f q (omega arith)
  written_at (c ∷ cs) i r (suc m) f z h p q =
      let e : slot (i + suc m) f ≡ slot (i + 1 + m) f = omega arith in
      let l = ap room (words_length i (record_of c) r 16) in
      ap (view (written put cs (i + 1) (put_words put r i (record_of c) 16))) e
      ∙ written_at cs (i + 1) (put_words put r i (record_of c) 16) m f z (omega arith) (omega arith) q

-- a buffer of dwords
dword_other : (r : List ℕ) (k v p : ℕ) → p ≢ k → get_or (set r k v) p 0 ≡ get_or r p 0
dword_other r k v p n = get_or-set_other r k p v 0 n

dword_same : (r : List ℕ) (k v : ℕ) → k < length r → get_or (set r k v) k 0 ≡ v
dword_same r k v h = get_or-set_same r k v 0 h

-- a buffer of bytes
byte_other : (r : List ℕ) (k v p : ℕ) → p / 4 ≢ k → get_or (put_le r k v) p 0 ≡ get_or r p 0
byte_other r k v p n = put_other r k v p n

pub written_length : (cs : List Command) (i : ℕ) (r : List ℕ) → length (written set cs i r) ≡ length r
written_length = written_long set (λ p. p) (λ r k. get_or r k 0) (λ v. v) (λ n. n) length-set dword_other dword_other dword_same

pub bytes_written_length : (cs : List Command) (i : ℕ) (r : List ℕ) → length (written put_le cs i r) ≡ length r
bytes_written_length =
    written_long put_le (λ p. p / 4) (λ r k. le_at r (4 * k)) (λ v. v % 2 ^ 32) (λ n. n / 4) length-put byte_other put_apart put_same

module _ (cs : List Command) (r : List ℕ) where
  -- LAW: word f of record i in a buffer of dwords
  pub word_at_lem : (i f : ℕ) (z : Command) → 16 * length cs ≤ length r → i < length cs → f < 16 →
      get_or (written set cs 0 r) (slot i f) 0 ≡ get_or (record_of (get_or cs i z)) f 0
  word_at_lem i f z h p q =
      let e : slot i f ≡ slot (0 + i) f = omega arith in
      ap (λ (k : ℕ). get_or (written set cs 0 r) k 0) e
      ∙ written_at set (λ p. p) (λ r k. get_or r k 0) (λ v. v) (λ n. n) length-set dword_other dword_other dword_same cs 0 r i f z (omega arith) p q

  -- LAW: every word past the records is as it was
  pub word_past : (k : ℕ) → 16 * length cs ≤ k → get_or (written set cs 0 r) k 0 ≡ get_or r k 0
  word_past k h =
      written_past set (λ p. p) (λ r k. get_or r k 0) (λ v. v) (λ n. n) length-set dword_other dword_other dword_same cs 0 r k (omega arith)

  -- LAW: the four bytes of word f of record i in a buffer of bytes; a dword holds 32 bits of it
  pub byte_word_at : (i f : ℕ) (z : Command) → 16 * length cs ≤ length r / 4 → i < length cs → f < 16 →
      le_at (written put_le cs 0 r) (4 * slot i f) ≡ get_or (record_of (get_or cs i z)) f 0 % 2 ^ 32
  byte_word_at i f z h p q =
      let e : slot i f ≡ slot (0 + i) f = omega arith in
      ap (λ (k : ℕ). le_at (written put_le cs 0 r) (4 * k)) e
      ∙ written_at put_le (λ p. p / 4) (λ r k. le_at r (4 * k)) (λ v. v % 2 ^ 32) (λ n. n / 4) length-put byte_other put_apart put_same cs 0 r i f z (omega arith) p q

  -- LAW: every byte past the records is as it was
  pub byte_past : (k : ℕ) → 64 * length cs ≤ k → get_or (written put_le cs 0 r) k 0 ≡ get_or r k 0
  byte_past k h =
      written_past put_le (λ p. p / 4) (λ r k. le_at r (4 * k)) (λ v. v % 2 ^ 32) (λ n. n / 4) length-put byte_other put_apart put_same cs 0 r k (omega arith)
