-- A chunk dword by dword: those that are read, and how many have come. Assumes nothing.
use mathlib.Core.Path.{◌≡◌, sym, ap, ap₂, ◌∙◌}
use mathlib.Core.Bool.{cond}
use Prim.Native.Nat.{ℕ, zero, suc, ◌+◌, ◌-◌, ◌<◌, ◌≤◌}
use native.Mathlib.Omega.{arith}
use mathlib.Core.List.{List, [], ◌∷◌}
use lib.ListN.{length, take}
use lib.Seq.{take_all}
use lib.Dec.{ltb, leb}
use borrow.Author.Tests.{lt-ltb, ltb-true, ltb-false, leb-true, leb-false}
use Rattle.laws.proofs.Choices.{by_test}
use Rattle.progress.specs.Steps.{Stage, step_on, stage_after}
use Rattle.feed.specs.Feeding.{taken, take_dword, take_chunk}
use Rattle.feed.specs.Counting.{read_count, dwords_after}

module _ (s n : ℕ) where
  pub count_over : 16384 < s → 16385 ≡ dwords_after s n
  count_over p = simp (lt-ltb 16384 (s + n) (omega arith))

  pub read_few : (read_count s n ≤ n) × (read_count s n ≤ 16384 - s)
  read_few =
      by_test (leb n (16384 - s))
      (λ e. let z = leb-true n (16384 - s) e in let y : read_count s n ≡ n = simp e in (omega arith, omega arith))
      (λ e. let z = leb-false n (16384 - s) e in let y : read_count s n ≡ 16384 - s = simp e in (omega arith, omega arith))

pub read_take : (s : ℕ) (l : List ℕ) → take (read_count s (length l)) l ≡ take (16384 - s) l
read_take s l =
    by_test (leb (length l) (16384 - s))
    (λ e. simp e (take_all (length l) l (omega arith) ∙ sym (take_all (16384 - s) l (leb-true (length l) (16384 - s) e))))
    (λ e. simp e)

count_none : (s : ℕ) → s ≤ 16385 → s ≡ dwords_after s 0
count_none s q =
    by_test (ltb 16384 (s + 0))
    (λ e. let z = ltb-true 16384 (s + 0) e in simp e (let y : s ≡ 16385 = omega arith in y))
    (λ e. simp e (let y : s ≡ s + 0 = omega arith in y))

count_more : (s n : ℕ) → dwords_after (s + 1) n ≡ dwords_after s (suc n)
count_more s n = let e : s + 1 + n ≡ s + suc n = omega arith in ap (λ (m : ℕ). cond (ltb 16384 m) 16385 m) e

-- LAW: the dwords of a chunk one by one
pub take_chunk_lem : (l : List ℕ) (n : ℕ) (s : Stage) → n ≤ 16385 → take_chunk (taken n s) l ≡ taken (dwords_after n (length l)) (stage_after s (take (16384 - n) l))
unfolding take_chunk take_dword stage_after
take_chunk_lem [] n s q = go (16384 - n)
  where
    go : (m : ℕ) → taken n s ≡ taken (dwords_after n 0) (stage_after s (take m []))
    go zero = ap (λ (x : ℕ). taken x s) (count_none n q)
    go (suc m) = ap (λ (x : ℕ). taken x s) (count_none n q)
take_chunk_lem (d ∷ ds) n s q =
    by_test (ltb n 16384)
    (λ e. let z = ltb-true n 16384 e in
    let y : 16384 - n ≡ suc (16384 - (n + 1)) = omega arith in
    simp e (take_chunk_lem ds (n + 1) (step_on s d) (omega arith)
    ∙ ap₂ (λ (x : ℕ) (p : List ℕ). taken x (stage_after s p)) (count_more n (length ds)) (sym (ap (λ (m : ℕ). take m (d ∷ ds)) y))))
    (λ e. let z = ltb-false n 16384 e in
    let y : 16384 - n ≡ 16384 - 16385 = omega arith in
    simp e (take_chunk_lem ds 16385 s (omega arith)
    ∙ ap₂ (λ (x : ℕ) (p : List ℕ). taken x (stage_after s p)) (sym (count_over 16385 (length ds) (omega arith)) ∙ count_past n (length ds) z) (none_taken ds n z)))
  where
    count_past : (m k : ℕ) → 16384 ≤ m → 16385 ≡ dwords_after m (suc k)
    count_past m k p = simp (lt-ltb 16384 (m + suc k) (omega arith))

    none_taken : (l : List ℕ) (m : ℕ) → 16384 ≤ m → take (16384 - 16385) l ≡ take (16384 - m) (d ∷ l)
    none_taken l m p = let x : 16384 - 16385 ≡ 0 = omega arith in let y : 16384 - m ≡ 0 = omega arith in simp (x, y)
