-- Demand 3, batches: two batches that differ only in inline data have one reading. Assumes nothing.
use mathlib.Core.Path.{◌≡◌, sym, ap, subst, subst₂, ◌∙◌}
use mathlib.Core.Logic.{inl, inr}
use mathlib.Core.List.{List, [], ◌∷◌}
use Prim.Native.Nat.{ℕ, zero, suc, ◌+◌, ◌*◌, ◌/◌, ◌<◌, ◌≤◌}
use native.Mathlib.Omega.{arith}
use lib.Dec.{ltb}
use lib.ListN.{length, get_or, set, length-set, get_or-eq_default}
use lib.Seq.{get_or-set_other}
use borrow.Author.Tests.{ltb-true, ltb-false}
use Rattle.chips.specs.declared.Target.{Target}
use Rattle.laws.proofs.Choices.{by_test}
use Rattle.words.specs.Dwords.{le_at, dwords_of}
use Rattle.words.specs.Lengths.{length_dwords}
use Rattle.words.proofs.Dwords.{get_or_dwords}
use Rattle.command.specs.Order.{Command}
use Rattle.reading.specs.Reading.{Stop, Reading, reading_of}
use Rattle.reading.specs.EndToEnd.{EndToEnd}
use Rattle.reading.specs.Vfes.{command_number}
use Rattle.reading.specs.Unread.{Inline}
use Rattle.reading.specs.Isolation.{Alike, BytesAlike}
use Rattle.reading.proofs.EndToEnd.{laid_reading}
use Rattle.reading.proofs.Same.{same_reading}

-- all dwords from 6 on of an OBJECT of the list are inline data
inline_wide : (cs : List Command) (m i : ℕ) → m < length cs → (command_number cs m).kind ≡ 7 → (command_number cs m).place + 6 ≤ i
    → i < (command_number cs m).place + (command_number cs m).total → Inline cs i
inline_wide [] m i h k p q = absurd (omega arith)
inline_wide (c ∷ cs) zero i h k p q = inl (k, p, q)
inline_wide (c ∷ cs) (suc m) i h k p q = inr (inline_wide cs m i (omega arith) k p q)

-- LAW: the second is passed as the first is, and reading stops alike
module _ (target : Target) (b b' : List ℕ) (h : Alike target b b') where
  pub alike_reading : reading_of target b ≡ reading_of target b'
  alike_reading = same_reading target b b' h.size (λ i u. h.agree i (λ w. u (inl w)))

-- two lists of bytes of one length
module _ (b b' : List ℕ) (size : length b ≡ length b') where
  pub dwords_count : length (dwords_of b) ≡ length (dwords_of b')
  dwords_count = length_dwords b ∙ ap (λ (n : ℕ). n / 4) size ∙ sym (length_dwords b')

  -- a dword is the same where its four bytes are
  pub dword_same : (i : ℕ) → ((k : ℕ) → k / 4 ≡ i → get_or b k 0 ≡ get_or b' k 0) → get_or (dwords_of b) i 0 ≡ get_or (dwords_of b') i 0
  dword_same i byte =
      by_test (ltb i (length b / 4))
      (λ e. let l = ltb-true i (length b / 4) e in get_or_dwords b i l ∙ four ∙ sym (get_or_dwords b' i (subst (λ (n : ℕ). i < n / 4) size l)))
      (λ e. let l = ltb-false i (length b / 4) e in
      let m : length (dwords_of b) ≤ i = let z = length_dwords b in omega arith in
      let m' : length (dwords_of b') ≤ i = let z = dwords_count in omega arith in
      get_or-eq_default (dwords_of b) 0 m ∙ sym (get_or-eq_default (dwords_of b') 0 m'))
    where
      four : le_at b (4 * i) ≡ le_at b' (4 * i)
      four = simp (byte (4 * i) (omega arith), byte (4 * i + 1) (omega arith), byte (4 * i + 2) (omega arith), byte (4 * i + 3) (omega arith))

-- over bytes: the whole dwords are alike
module _ (target : Target) (b b' : List ℕ) (h : BytesAlike target b b') where
  pub bytes_count : length (dwords_of b) ≡ length (dwords_of b')
  bytes_count = dwords_count b b' h.size

  dword : (i : ℕ) → (Inline (reading_of target (dwords_of b)).passed i → ⊥) → get_or (dwords_of b) i 0 ≡ get_or (dwords_of b') i 0
  dword i off = dword_same b b' h.size i (λ k e. h.agree k (λ w. off (subst (Inline (reading_of target (dwords_of b)).passed) e w)))

  pub bytes_alike : Alike target (dwords_of b) (dwords_of b')
  bytes_alike = record { size = bytes_count; agree = dword }

-- LAW: any value in any inline dword of an OBJECT passed makes a batch alike, whatever stops the reading
module _ (target : Target) (b : List ℕ) (cs : List Command) (stop : Stop) (laid : EndToEnd target b [] 0 cs stop) (m : ℕ) (h : m < length cs)
    (k : (command_number cs m).kind ≡ 7) (i : ℕ) (p : 6 ≤ i) (q : i < (command_number cs m).total) (v : ℕ) where
  abbrev place : ℕ
  place = (command_number cs m).place + i

  pub inline_alike : Alike target b (set b place v)
  inline_alike =
      let e = ap (λ (r : Reading). r.passed) (laid_reading target b cs stop laid) in
      let w = inline_wide cs m place h k (omega arith) (omega arith) in
      record {
        size = sym (length-set b place v);
        agree = λ j n. sym (get_or-set_other b place j v 0 (λ x. n (subst₂ Inline (sym e) (sym x) w)));
      }

-- LAW: and any value in any of its four bytes, over bytes
module _ (target : Target) (b : List ℕ) (cs : List Command) (stop : Stop) (laid : EndToEnd target (dwords_of b) [] 0 cs stop) (m : ℕ) (h : m < length cs)
    (k : (command_number cs m).kind ≡ 7) (i : ℕ) (p : 6 ≤ i) (q : i < (command_number cs m).total) (j : ℕ) (l : j < 4) (v : ℕ) where
  abbrev dword_at : ℕ
  dword_at = (command_number cs m).place + i

  pub inline_bytes_alike : BytesAlike target b (set b (4 * dword_at + j) v)
  inline_bytes_alike =
      let e = ap (λ (r : Reading). r.passed) (laid_reading target (dwords_of b) cs stop laid) in
      let w = inline_wide cs m dword_at h k (omega arith) (omega arith) in
      record {
        size = sym (length-set b (4 * dword_at + j) v);
        agree = λ n u. sym (get_or-set_other b (4 * dword_at + j) n v 0 (λ x. let z : dword_at ≡ n / 4 = omega arith in u (subst₂ Inline (sym e) z w)));
      }
