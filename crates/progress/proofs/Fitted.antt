-- The records that fit, word by word. Assumes nothing.
use mathlib.Core.Path.{◌≡◌, refl, sym, ap, ◌∙◌}
use mathlib.Core.Bool.{Bool, true, false, cond}
use Prim.Native.Nat.{ℕ, zero, suc, ◌+◌, ◌*◌, ◌/◌, ◌<◌, ◌≤◌}
use native.Mathlib.Omega.{arith}
use mathlib.Core.List.{List, [], ◌∷◌, ◌++◌}
use lib.ListN.{length, get_or, set, length-set}
use lib.Seq.{get_or-set_other, get_or-set_same}
use lib.Dec.{ltb, eqb}
use borrow.Author.Tests.{lt-ltb, ltb-true, eqb-true, eqb-false}
use Rattle.laws.proofs.Choices.{by_test}
use Rattle.command.specs.Order.{Command}
use Rattle.record.specs.Record.{record_of}
use Rattle.records.specs.Records.{slot, put_words, written}
use Rattle.progress.specs.Steps.{fitted}
use Rattle.progress.specs.Fitting.{written_fit}

words_length : (r : List ℕ) (i : ℕ) (ws : List ℕ) (k : ℕ) → length (put_words set r i ws k) ≡ length r
unfolding put_words
words_length r i ws zero = refl
words_length r i ws (suc k) = simp length-set (words_length r i ws k)

pub fit_length : (r : List ℕ) (i : ℕ) (ws : List ℕ) → length (fitted r i ws) ≡ length r
unfolding fitted
fit_length r i ws = go (ltb i (length r / 16))
  where
    go : (t : Bool) → length (cond t (put_words set r i ws 16) r) ≡ length r
    go true = words_length r i ws 16
    go false = refl

pub written_length : (cs : List Command) (i : ℕ) (r : List ℕ) → length (written_fit cs i r) ≡ length r
unfolding written_fit
written_length [] i r = refl
written_length (c ∷ cs) i r = written_length cs (i + 1) (fitted r i (record_of c)) ∙ fit_length r i (record_of c)

pub written_append : (cs ds : List Command) (i : ℕ) (r : List ℕ) → written_fit (cs ++ ds) i r ≡ written_fit ds (i + length cs) (written_fit cs i r)
unfolding written_fit
written_append [] ds i r = let e : i ≡ i + 0 = omega arith in ap (λ (n : ℕ). written_fit ds n r) e
written_append (c ∷ cs) ds i r =
    let e : i + 1 + length cs ≡ i + suc (length cs) = omega arith in
    written_append cs ds (i + 1) (fitted r i (record_of c)) ∙ ap (λ (n : ℕ). written_fit ds n (written_fit cs (i + 1) (fitted r i (record_of c)))) e

-- where all fit, they are those of a whole batch
fit_all : (r : List ℕ) (i : ℕ) (ws : List ℕ) → 16 * i + 16 ≤ length r → fitted r i ws ≡ put_words set r i ws 16
unfolding fitted
fit_all r i ws q = simp (lt-ltb i (length r / 16) (omega arith))

pub written_room : (cs : List Command) (i : ℕ) (r : List ℕ) → 16 * (i + length cs) ≤ length r → written_fit cs i r ≡ written set cs i r
unfolding written_fit written
written_room [] i r q = refl
written_room (c ∷ cs) i r q =
    let y : 16 * (i + 1 + length cs) ≤ length (put_words set r i (record_of c) 16) = let w = words_length r i (record_of c) 16 in omega arith in
    ap (written_fit cs (i + 1)) (fit_all r i (record_of c) (omega arith)) ∙ written_room cs (i + 1) (put_words set r i (record_of c) 16) y

-- a word of no record that was written stays
words_other : (r : List ℕ) (i : ℕ) (ws : List ℕ) (k p : ℕ) → k ≤ 16 → (p / 16 ≡ i → ⊥) → get_or (put_words set r i ws k) p 0 ≡ get_or r p 0
unfolding put_words
words_other r i ws zero p q n = refl
words_other r i ws (suc k) p q n =
    get_or-set_other (put_words set r i ws k) (slot i k) p (get_or ws k 0) 0 (λ e. n (let z : p ≡ 16 * i + k = e in omega arith))
    ∙ words_other r i ws k p (omega arith) n

fit_other : (r : List ℕ) (i : ℕ) (ws : List ℕ) (p : ℕ) → (p / 16 ≡ i → i < length r / 16 → ⊥) → get_or (fitted r i ws) p 0 ≡ get_or r p 0
unfolding fitted
fit_other r i ws p n = go (ltb i (length r / 16)) refl
  where
    go : (t : Bool) → ltb i (length r / 16) ≡ t → get_or (cond t (put_words set r i ws 16) r) p 0 ≡ get_or r p 0
    go true e = words_other r i ws 16 p (omega arith) (λ z. n z (ltb-true i (length r / 16) e))
    go false e = refl

pub written_other : (cs : List Command) (i : ℕ) (r : List ℕ) (p : ℕ) → (i ≤ p / 16 → p / 16 < i + length cs → p / 16 < length r / 16 → ⊥)
    → get_or (written_fit cs i r) p 0 ≡ get_or r p 0
unfolding written_fit
written_other [] i r p n = refl
written_other (c ∷ cs) i r p n =
    let l = fit_length r i (record_of c) in
    written_other cs (i + 1) (fitted r i (record_of c)) p
    (λ a b d. n (omega arith) (omega arith) (let e : length (fitted r i (record_of c)) / 16 ≡ length r / 16 = ap (λ (m : ℕ). m / 16) l in omega arith))
    ∙ fit_other r i (record_of c) p (λ e f. n (omega arith) (omega arith) (omega arith))

-- word f of the record of command i, where it fits
words_at : (r : List ℕ) (i : ℕ) (ws : List ℕ) (k f : ℕ) → f < k → slot i f < length r → get_or (put_words set r i ws k) (slot i f) 0 ≡ get_or ws f 0
unfolding put_words
words_at r i ws zero f p q = absurd (omega arith)
words_at r i ws (suc k) f p q =
    by_test (eqb f k)
    (λ t. let e = eqb-true f k t in
    let z = words_length r i ws k in
    ap (λ (g : ℕ). get_or (set (put_words set r i ws k) (slot i k) (get_or ws k 0)) (slot i g) 0) e
    ∙ get_or-set_same (put_words set r i ws k) (slot i k) (get_or ws k 0) 0 (omega arith) ∙ ap (λ (g : ℕ). get_or ws g 0) (sym e))
    (λ t. let n = eqb-false f k t in
    get_or-set_other (put_words set r i ws k) (slot i k) (slot i f) (get_or ws k 0) 0 (λ e. n (omega arith)) ∙ words_at r i ws k f (omega arith) q)

fit_at : (r : List ℕ) (i : ℕ) (ws : List ℕ) (f : ℕ) → f < 16 → i < length r / 16 → get_or (fitted r i ws) (slot i f) 0 ≡ get_or ws f 0
unfolding fitted
fit_at r i ws f p q = simp (lt-ltb i (length r / 16) q) (words_at r i ws 16 f p (omega arith))

pub written_at : (cs : List Command) (i j : ℕ) (r : List ℕ) (z : Command) (f : ℕ) → j < length cs → i + j < length r / 16 → f < 16
    → get_or (written_fit cs i r) (slot (i + j) f) 0 ≡ get_or (record_of (get_or cs j z)) f 0
unfolding written_fit
written_at [] i j r z f p q w = absurd (omega arith)
written_at (c ∷ cs) i zero r z f p q w =
    let e : i + 0 ≡ i = omega arith in
    let l = fit_length r i (record_of c) in
    ap (λ (m : ℕ). get_or (written_fit cs (i + 1) (fitted r i (record_of c))) (slot m f) 0) e
    ∙ written_other cs (i + 1) (fitted r i (record_of c)) (slot i f) (λ a b d. omega arith)
    ∙ fit_at r i (record_of c) f w (omega arith)
written_at (c ∷ cs) i (suc j) r z f p q w =
    let e : i + suc j ≡ i + 1 + j = omega arith in
    let l : length (fitted r i (record_of c)) / 16 ≡ length r / 16 = ap (λ (m : ℕ). m / 16) (fit_length r i (record_of c)) in
    ap (λ (m : ℕ). get_or (written_fit cs (i + 1) (fitted r i (record_of c))) (slot m f) 0) e
    ∙ written_at cs (i + 1) j (fitted r i (record_of c)) z f (omega arith) (omega arith) w
