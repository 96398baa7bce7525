-- A forward's bytes: one by one, all the data and what stood behind them, or what ends with them and what stood before. Assumes nothing.
use mathlib.Core.Path.{◌≡◌, refl, sym, ap, subst, ◌∙◌}
use mathlib.Core.List.{List, [], ◌∷◌, ◌++◌, append_assoc}
use Prim.Native.Nat.{ℕ, ◌+◌, ◌≤◌, ◌<◌}
use native.Mathlib.Numerals.{add-one}
use native.Mathlib.Omega.{arith}
use lib.ListN.{length, get_or, set, take, drop, length-drop, take-append-drop}
use lib.Seq.{paste, paste-suc, length-paste, take-paste, drop-paste, length-take-le, take-take, take_all, take-suc, take-suc-set, take-append-add, take-append-le, drop-append-le, drop_at, drop-drop, take-add, get_or-take, get_or-drop}

-- a turn of a loop that copies
pub copied_turn : (d : List ℕ) (at : ℕ) (s : List ℕ) (i : ℕ) (l : List ℕ) (v : ℕ) → l ≡ paste d at s i → v ≡ get_or s i 0
    → at + i < length d → i < length s → set l (at + i) v ≡ paste d at s (i + 1)
copied_turn d at s i l v el ev hd hs =
    (λ j. set (el j) (at + i) (ev j)) ∙ paste-suc d at s i 0 hd hs ∙ ap (paste d at s) (sym (add-one i))

-- ---- a block: n bytes from a place on

module _ (n : ℕ) (b : List ℕ) (at : ℕ) (room : at + n ≤ length b) where
  abbrev block : List ℕ
  block = take n (drop at b)

  block_long : length block ≡ n
  block_long = length-take-le n (drop at b) (simp length-drop (omega arith))

  -- a turn of the loop that loads it
  pub loaded_turn : (l : List ℕ) (i : ℕ) → i < n → length l ≡ n → take i l ≡ take i block → take (i + 1) (set l i (get_or b (at + i) 0)) ≡ take (i + 1) block
  loaded_turn l i h long e =
      ap (λ (k : ℕ). take k (set l i (get_or b (at + i) 0))) (add-one i)
      ∙ take-suc-set l i (get_or b (at + i) 0) (omega arith)
      ∙ (λ j. e j ++ (sym (get_or-take n (drop at b) i 0 h ∙ get_or-drop at b i 0) j ∷ []))
      ∙ sym (take-suc block i 0 (omega (arith, block_long)))
      ∙ ap (λ (k : ℕ). take k block) (sym (add-one i))

  pub loaded : (l : List ℕ) (i : ℕ) → n ≤ i → length l ≡ n → take i l ≡ take i block → l ≡ block
  loaded l i h long e = sym (take_all i l (omega arith)) ∙ e ∙ take_all i block (omega (arith, block_long))

-- ---- two blocks of a list stored one after the other are one block stored

module _ (l : List ℕ) (e : ℕ) (s : List ℕ) (f m n : ℕ) (room : e + m + n ≤ length l) (held : f + m + n ≤ length s) where
  abbrev first : List ℕ
  first = take m (drop f s)

  first_long : length first ≡ m
  first_long = length-take-le m (drop f s) (simp length-drop (omega arith))

  one_by_one : paste (paste l e first m) (e + m) (take n (drop (f + m) s)) n ≡ paste l e (take (m + n) (drop f s)) (m + n)
  one_by_one =
      let far : e + (m + n) ≡ e + m + n = omega arith in
      let h : take (e + m) (paste l e first m) ≡ take e l ++ take m first = take-paste l e first m (omega arith) (omega (arith, first_long)) in
      let t : drop (e + m + n) (paste l e first m) ≡ drop (e + (m + n)) l =
      sym (drop-drop n (e + m) (paste l e first m))
      ∙ ap (drop n) (drop-paste l e first m (omega arith) (omega (arith, first_long)))
      ∙ drop-drop n (e + m) l
      ∙ ap (λ (k : ℕ). drop k l) (sym far) in
      let b : take m first ++ take n (take n (drop (f + m) s)) ≡ take (m + n) (take (m + n) (drop f s)) =
      (λ j. take_all m first (omega (arith, first_long)) j ++ take-take n n (drop (f + m) s) (omega arith) j)
      ∙ (λ j. first ++ take n (sym (drop-drop m f s) j))
      ∙ sym (take-add m n (drop f s))
      ∙ sym (take-take (m + n) (m + n) (drop f s) (omega arith)) in
      (λ j. h j ++ take n (take n (drop (f + m) s)) ++ t j)
      ∙ ap (λ (x : List ℕ). x ++ drop (e + (m + n)) l) (append_assoc (take e l) (take m first) (take n (take n (drop (f + m) s))))
      ∙ (λ j. take e l ++ b j ++ drop (e + (m + n)) l)

  pub stored_on : (b l₁ l₂ : List ℕ) → b ≡ take n (drop (f + m) s) → l₁ ≡ paste l e (take m (drop f s)) m → l₂ ≡ paste l₁ (e + m) b n
      → l₂ ≡ paste l e (take (m + n) (drop f s)) (m + n)
  stored_on b l₁ l₂ eb e₁ e₂ = e₂ ∙ (λ j. paste (e₁ j) (e + m) (eb j) n) ∙ one_by_one

-- ---- all the data, and then what stood behind the forward's bytes, leave the registers as the forward's bytes do

module _ (rs : List ℕ) (at : ℕ) (s : List ℕ) (count : ℕ) (room : at + count + 32 ≤ length rs) (few : count ≤ 32) (held : 32 ≤ length s) where
  abbrev wide : List ℕ
  wide = paste rs at s 32

  front : take (at + count) wide ≡ take at rs ++ take count s
  front =
      sym (take-take (at + count) (at + 32) wide (omega arith))
      ∙ ap (take (at + count)) (take-paste rs at s 32 (omega arith) held)
      ∙ ap (λ (k : ℕ). take (k + count) (take at rs ++ take 32 s)) (sym (length-take-le at rs (omega arith)))
      ∙ take-append-add (take at rs) (take 32 s) count
      ∙ ap (λ (l : List ℕ). take at rs ++ l) (take-take count 32 s few)

  back : drop (at + count + 32) wide ≡ drop 32 (drop (at + count) rs)
  back =
      let e : at + 32 + count ≡ at + count + 32 = omega arith in
      ap (λ (k : ℕ). drop k wide) (sym e)
      ∙ sym (drop-drop count (at + 32) wide)
      ∙ ap (drop count) (drop-paste rs at s 32 (omega arith) held)
      ∙ drop-drop count (at + 32) rs
      ∙ ap (λ (k : ℕ). drop k rs) e
      ∙ sym (drop-drop 32 (at + count) rs)

  pub put_back : (d behind l l' : List ℕ) → d ≡ take 32 s → behind ≡ take 32 (drop (at + count) rs) → l ≡ paste rs at d 32 → l' ≡ paste l (at + count) behind 32
      → l' ≡ paste rs at s count
  put_back d behind l l' ed eb el el' =
      let rest = drop (at + count) rs in
      let e : l ≡ wide = el ∙ (λ j. take at rs ++ take 32 (ed j) ++ drop (at + 32) rs) ∙ (λ j. take at rs ++ take-take 32 32 s (omega arith) j ++ drop (at + 32) rs) in
      el'
      ∙ (λ j. paste (e j) (at + count) (eb j) 32)
      ∙ (λ j. front j ++ take-take 32 32 rest (omega arith) j ++ back j)
      ∙ append_assoc (take at rs ++ take count s) (take 32 rest) (drop 32 rest)
      ∙ ap (λ (l : List ℕ). take at rs ++ take count s ++ l) (take-append-drop 32 rest)

  -- put back eight bytes at a time
  pub put_back_eights : {d b₀ b₁ b₂ b₃ l l₀ l₁ l₂ l₃ : List ℕ} → d ≡ take 32 s
      → b₀ ≡ take 8 (drop (at + count) rs) → b₁ ≡ take 8 (drop (at + count + 8) rs) → b₂ ≡ take 8 (drop (at + count + 16) rs) → b₃ ≡ take 8 (drop (at + count + 24) rs)
      → l ≡ paste rs at d 32 → l₀ ≡ paste l (at + count) b₀ 8 → l₁ ≡ paste l₀ (at + count + 8) b₁ 8 → l₂ ≡ paste l₁ (at + count + 16) b₂ 8 → l₃ ≡ paste l₂ (at + count + 24) b₃ 8
      → l₃ ≡ paste rs at s count
  put_back_eights {d} {b₀} {b₁} {b₂} {b₃} {l} {l₀} {l₁} {l₂} {l₃} ed e₀ e₁ e₂ e₃ el p₀ p₁ p₂ p₃ =
      let e = at + count in
      let long : length l ≡ length rs =
      ap length el ∙ length-paste rs at d 32 (omega arith) (subst (λ (x : List ℕ). 32 ≤ length x) (sym ed) (subst (λ (n : ℕ). 32 ≤ n) (sym (length-take-le 32 s held)) (omega arith))) in
      let q₀ : l₀ ≡ paste l e (take 8 (drop e rs)) 8 = p₀ ∙ ap (λ (b : List ℕ). paste l e b 8) e₀ in
      let q₁ = stored_on l e rs e 8 8 (omega (arith, long)) (omega arith) b₁ l₀ l₁ e₁ q₀ p₁ in
      let q₂ = stored_on l e rs e 16 8 (omega (arith, long)) (omega arith) b₂ l₁ l₂ e₂ q₁ p₂ in
      let q₃ = stored_on l e rs e 24 8 (omega (arith, long)) (omega arith) b₃ l₂ l₃ e₃ q₂ p₃ in
      put_back d (take 32 (drop e rs)) l l₃ ed refl el q₃

-- ---- sixteen bytes that end with the forward's, and then what stood before its bytes, leave the registers so too: q is sixteen before them

module _ (rs : List ℕ) (q : ℕ) (s : List ℕ) (count g : ℕ) (all : count + g ≡ 16) (room : q + 16 + count ≤ length rs) (held : 16 + count ≤ length s) where
  abbrev tail : List ℕ
  tail = take 16 (drop count s)

  abbrev ended : List ℕ
  ended = paste rs (q + count) tail 16

  tail_long : length tail ≡ 16
  tail_long = length-take-le 16 (drop count s) (simp length-drop (omega arith))

  start : take q ended ≡ take q rs
  start =
      sym (take-take q (q + count + 16) ended (omega arith))
      ∙ ap (take q) (take-paste rs (q + count) tail 16 (omega arith) (omega (arith, tail_long)))
      ∙ take-append-le q (take (q + count) rs) (take 16 tail) (omega (arith, length-take-le (q + count) rs (omega arith)))
      ∙ take-take q (q + count) rs (omega arith)

  -- of the sixteen, the forward's own
  own : drop g tail ≡ take count (drop 16 s)
  own =
      let e : g + count ≡ 16 = omega arith in
      ap (λ (k : ℕ). drop g (take k (drop count s))) (sym e)
      ∙ ap (drop g) (take-add g count (drop count s))
      ∙ drop_at (take g (drop count s)) (take count (drop g (drop count s))) g (length-take-le g (drop count s) (simp length-drop (omega arith)))
      ∙ ap (take count) (drop-drop g count s ∙ ap (λ (k : ℕ). drop k s) all)

  rest : drop (q + 16) ended ≡ take count (drop 16 s) ++ drop (q + 16 + count) rs
  rest =
      let e : q + 16 ≡ q + count + g = omega arith in
      let e' : q + count + 16 ≡ q + 16 + count = omega arith in
      ap (λ (k : ℕ). drop k ended) e
      ∙ sym (drop-drop g (q + count) ended)
      ∙ ap (λ (l : List ℕ). drop g (drop (q + count) l)) (append_assoc (take (q + count) rs) (take 16 tail) (drop (q + count + 16) rs))
      ∙ ap (drop g) (drop_at (take (q + count) rs) (take 16 tail ++ drop (q + count + 16) rs) (q + count) (length-take-le (q + count) rs (omega arith)))
      ∙ (λ j. drop g (take-take 16 16 (drop count s) (omega arith) j ++ drop (e' j) rs))
      ∙ drop-append-le g tail (drop (q + 16 + count) rs) (omega (arith, tail_long))
      ∙ ap (λ (l : List ℕ). l ++ drop (q + 16 + count) rs) own

  pub put_before : (l l' : List ℕ) → l ≡ ended → l' ≡ paste l q (take 16 (drop q rs)) 16 → l' ≡ paste rs (q + 16) (drop 16 s) count
  put_before l l' e e' =
      e'
      ∙ ap (λ (x : List ℕ). paste x q (take 16 (drop q rs)) 16) e
      ∙ (λ j. (start j ++ take-take 16 16 (drop q rs) (omega arith) j) ++ rest j)
      ∙ ap (λ (x : List ℕ). x ++ (take count (drop 16 s) ++ drop (q + 16 + count) rs)) (sym (take-add q 16 rs))
      ∙ sym (append_assoc (take (q + 16) rs) (take count (drop 16 s)) (drop (q + 16 + count) rs))

  -- eight bytes at a time
  pub put_before_eights : {d₀ d₁ b₀ b₁ l₀ l₁ l₂ l₃ : List ℕ} → d₀ ≡ take 8 (drop count s) → d₁ ≡ take 8 (drop (count + 8) s) → b₀ ≡ take 8 (drop q rs) → b₁ ≡ take 8 (drop (q + 8) rs)
      → l₀ ≡ paste rs (q + count) d₀ 8 → l₁ ≡ paste l₀ (q + count + 8) d₁ 8 → l₂ ≡ paste l₁ q b₀ 8 → l₃ ≡ paste l₂ (q + 8) b₁ 8
      → l₃ ≡ paste rs (q + 16) (drop 16 s) count
  put_before_eights {d₀} {d₁} {b₀} {b₁} {l₀} {l₁} {l₂} {l₃} ed₀ ed₁ eb₀ eb₁ p₀ p₁ p₂ p₃ =
      let t = stored_on rs (q + count) s count 8 8 (omega arith) (omega arith) d₁ l₀ l₁ ed₁ (p₀ ∙ ap (λ (b : List ℕ). paste rs (q + count) b 8) ed₀) p₁ in
      let long : length l₁ ≡ length rs = ap length t ∙ length-paste rs (q + count) tail 16 (omega arith) (omega (arith, tail_long)) in
      put_before l₁ l₃ t (stored_on l₁ q rs q 8 8 (omega (arith, long)) (omega arith) b₁ l₂ l₃ eb₁ (p₂ ∙ ap (λ (b : List ℕ). paste l₁ q b 8) eb₀) p₃)

-- at the registers' end the forward's bytes alone are stored, out of the data loaded
pub stored_data : (rs : List ℕ) (at : ℕ) (s : List ℕ) (count : ℕ) → count ≤ 32 → (d l : List ℕ) → d ≡ take 32 s → l ≡ paste rs at d count → l ≡ paste rs at s count
stored_data rs at s count few d l ed el =
    el ∙ (λ j. take at rs ++ take count (ed j) ++ drop (at + count) rs) ∙ (λ j. take at rs ++ take-take count 32 s few j ++ drop (at + count) rs)
