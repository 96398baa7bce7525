-- A command's own dwords. Assumes nothing.
use mathlib.Core.Path.{◌≡◌, refl, sym, ap, subst, ◌∙◌}
use mathlib.Core.Bool.{Bool, true, false, cond, ◌&&◌}
use Prim.Native.Nat.{ℕ, ◌+◌, ◌/◌, ◌%◌, ◌^◌, ◌≤◌, ◌<◌}
use native.Mathlib.Omega.{arith}
use lib.ListN.{get_or, drop}
use lib.Seq.{get_or-drop}
use native.Mathlib.Nat.{add-zero}
use lib.Dec.{eqb, ltb, leb}
use borrow.Author.Tests.{ltb-true, leb-true, lt-leb, le-ltb, ne_eqb}
use Rattle.laws.proofs.Choices.{by_test, by_cond}
use lib.Bits.{bit_and, and_mask}
use Rattle.laws.proofs.BitRanges.{taken}
use mathlib.Core.List.{List, [], ◌∷◌, ◌++◌}
use Rattle.laws.specs.Rows.{Row, row, first_row}
use Rattle.laws.proofs.Rows.{by_rows}
use Rattle.chips.specs.declared.Chip.{Chip}
use Rattle.chips.specs.declared.Chip.TheVariants.{Gen6, Gen7}
use Rattle.command.specs.Kinds.{header, is_kind, no_kind, has_gateway_state, kind_rows, kind_of, is_media, length_allowed, own_dwords, own_dword, first_dwords, head_of, DwordsAt}

-- the own dwords of a kind, by how many they are
pub head_by : (k m : ℕ) (l r : List ℕ) → own_dwords k ≡ m → r ≡ first_dwords m l → r ≡ head_of k l
unfolding head_of
head_by k m l r o e = e ∙ ap (λ (n : ℕ). first_dwords n l) (sym o)

-- and of the list from a place on
pub dword_from : (l : List ℕ) (at n i : ℕ) → cond (ltb i n) (get_or l (at + i) 0) 0 ≡ own_dword n (drop at l) i
dword_from l at n i = simp get_or-drop

-- the own dwords of a kind n, of which it has m, are there where those of k are
pub own_at : (k n m : ℕ) (l : List ℕ) (at d : ℕ) → own_dwords n ≡ m → k ≡ n → DwordsAt l at (own_dwords k) d → DwordsAt l at m d
own_at k n m l at d o e p = subst (λ (x : ℕ). DwordsAt l at x d) (ap own_dwords e ∙ o) p

-- how many own dwords a kind has, by its number
pub own_as : (k n m : ℕ) → own_dwords n ≡ m → k ≡ n → m ≡ own_dwords k
own_as k n m o e = sym (ap own_dwords e ∙ o)

-- every command has a dword of its own
pub own_pos : (k : ℕ) → 0 < own_dwords k
unfolding own_dwords
own_pos k =
    by_cond (λ (n : ℕ). 0 < n) (eqb k 7) _ _ (λ _. omega arith)
    (λ _. by_cond (λ (n : ℕ). 0 < n) (is_media k) _ _ (λ _. omega arith) (λ _. omega arith))

-- a command that is no media command has one dword
module _ (k : ℕ) (n3 : k ≡ 3 → ⊥) (n4 : k ≡ 4 → ⊥) (n5 : k ≡ 5 → ⊥) (n6 : k ≡ 6 → ⊥) (n7 : k ≡ 7 → ⊥) (n8 : k ≡ 8 → ⊥) where
  no_media : is_media k ≡ false
  no_media = by_test (leb 3 k) (λ p. let l = leb-true 3 k p in simp (p, lt-leb k 8 (omega arith))) (λ p. simp p)

  -- and past kinds 0 to 2 no length field is allowed
  pub none_allowed : (n : ℕ) → 3 ≤ k → false ≡ length_allowed k n
  unfolding length_allowed
  none_allowed n l = simp (le-ltb k 3 l, ne_eqb k 7 n7, no_media)

  pub own_one : own_dwords k ≡ 1
  unfolding own_dwords
  own_one = simp (ne_eqb k 7 n7, no_media)

  pub head_one : (l r : List ℕ) → r ≡ first_dwords 1 l → r ≡ head_of k l
  unfolding head_of
  head_one l r e = e ∙ ap (λ (n : ℕ). first_dwords n l) (sym own_one)

-- The deciding law: two lists that agree on the own dwords of a command give one head.
module _ (k : ℕ) (l l' : List ℕ) (same : (i : ℕ) → i < own_dwords k → get_or l i 0 ≡ get_or l' i 0) where
  own_same : (i : ℕ) (t : Bool) → ltb i (own_dwords k) ≡ t → cond t (get_or l i 0) 0 ≡ cond t (get_or l' i 0) 0
  own_same i true e = same i (ltb-true i (own_dwords k) e)
  own_same i false e = refl

  own_is : (i : ℕ) → own_dword (own_dwords k) l i ≡ own_dword (own_dwords k) l' i
  own_is i = own_same i (ltb i (own_dwords k)) refl

  pub head_same : head_of k l ≡ head_of k l'
  unfolding head_of
  head_same = simp (same 0 (own_pos k), own_is)

-- an OBJECT's own dwords are the six before its inline data
pub own_object : own_dwords 7 ≡ 6
unfolding own_dwords
own_object = refl

-- END has one dword
pub own_end : own_dwords 2 ≡ 1
unfolding own_dwords
own_end = refl

-- a media command's kind, by its type and opcodes
abbrev media_kind : Chip → ℕ → ℕ
media_kind c m =
    first_row no_kind
    (row 3 (eqb m (header 3 / 2 ^ 16))
    ∷ row 4 (eqb m (header 4 / 2 ^ 16))
    ∷ row 5 (eqb m (header 5 / 2 ^ 16))
    ∷ row 6 (eqb m (header 6 / 2 ^ 16))
    ∷ row 7 (eqb m (header 7 / 2 ^ 16))
    ∷ row 8 (has_gateway_state c && eqb m (header 8 / 2 ^ 16))
    ∷ [])

-- type and opcodes tell a media command from the whole dwords of kinds 0 to 2
pub media_kind_lem : (c : Chip) (d m : ℕ) → bit_and (d / 65536) 65535 ≡ m → 0x0500 < m → media_kind c m ≡ kind_of c d
unfolding kind_of
media_kind_lem c d m e h =
    let f : d / 65536 % 65536 ≡ m = sym (and_mask (d / 65536) 16) ∙ e in
    simp (taken, e, ne_eqb d 0x0000_0000 (λ q. omega arith), ne_eqb d 0x0200_0000 (λ q. omega arith), ne_eqb d 0x0500_0000 (λ q. omega arith))

-- below the opcodes of the state flush there are those of kinds 3, 4, 5 and 8
pub gateway_kind : (c : Chip) (d m : ℕ) → bit_and (d / 65536) 65535 ≡ m → 0x7000_0000 ≤ d → d < 0x7004_0000
    → (m ≡ 0x7000 → ⊥) → (m ≡ 0x7001 → ⊥) → (m ≡ 0x7002 → ⊥) → cond (has_gateway_state c) 8 no_kind ≡ kind_of c d
gateway_kind c d m e l u n3 n4 n5 =
    let f : d / 65536 % 65536 ≡ m = sym (and_mask (d / 65536) 16) ∙ e in
    let g : m ≡ 0x7003 = omega arith in
    and_true (has_gateway_state c) ∙ media_kind_lem c d 0x7003 (e ∙ g) (omega arith)
  where
    and_true : (t : Bool) → cond t 8 no_kind ≡ cond (t && true) 8 no_kind
    and_true true = refl
    and_true false = refl

-- and from those on there is none of kind 8
pub no_gateway : (d : ℕ) → 0x7004_0000 ≤ d → d < 2 ^ 32 → bit_and (d / 65536) 65535 ≡ 0x7003 → ⊥
no_gateway d l u e =
    let f : d / 65536 % 65536 ≡ 0x7003 = sym (and_mask (d / 65536) 16) ∙ e in
    omega arith

not_both : (t : Bool) → t && false ≡ false
not_both true = refl
not_both false = refl

-- no command of the table
pub no_kind_lem : (c : Chip) (d m : ℕ) → bit_and (d / 65536) 65535 ≡ m → (d ≡ 0x0000_0000 → ⊥) → (d ≡ 0x0200_0000 → ⊥) → (d ≡ 0x0500_0000 → ⊥)
    → (m ≡ 0x7000 → ⊥) → (m ≡ 0x7001 → ⊥) → (m ≡ 0x7002 → ⊥) → (m ≡ 0x7003 → ⊥) → (m ≡ 0x7004 → ⊥) → (m ≡ 0x7100 → ⊥) → no_kind ≡ kind_of c d
unfolding kind_of
no_kind_lem c d m e n0 n1 n2 n3 n4 n5 n8 n6 n7 =
    simp (
      taken,
      e,
      ne_eqb d 0x0000_0000 n0,
      ne_eqb d 0x0200_0000 n1,
      ne_eqb d 0x0500_0000 n2,
      ne_eqb m 0x7000 n3,
      ne_eqb m 0x7001 n4,
      ne_eqb m 0x7002 n5,
      ne_eqb m 0x7003 n8,
      ne_eqb m 0x7004 n6,
      ne_eqb m 0x7100 n7,
      not_both,
    )

-- nor is a dword below those of media commands, but for kinds 0 to 2
pub no_plain_kind : (c : Chip) (d : ℕ) → d < 0x7000_0000 → (d ≡ 0x0000_0000 → ⊥) → (d ≡ 0x0200_0000 → ⊥) → (d ≡ 0x0500_0000 → ⊥) → no_kind ≡ kind_of c d
no_plain_kind c d h n0 n1 n2 =
    let f : d / 65536 % 65536 ≡ bit_and (d / 65536) 65535 = sym (and_mask (d / 65536) 16) in
    no_kind_lem c d (bit_and (d / 65536) 65535) refl n0 n1 n2
    (λ q. omega arith) (λ q. omega arith) (λ q. omega arith) (λ q. omega arith) (λ q. omega arith) (λ q. omega arith)

-- kind 8 is of a chip that has it
false-true : false ≡ true → ⊥
false-true e = let z : ◌≡◌ {A = ℕ} 0 1 = ap (λ (t : Bool). cond t 1 0) e in omega arith

no_eight : (d : ℕ) → kind_of Gen7 d ≡ 8 → ⊥
unfolding kind_of
no_eight d =
    by_rows (λ (k : ℕ). k ≡ 8 → ⊥) no_kind (kind_rows Gen7 d) (λ e. omega arith)
    ((λ _ e. omega arith), ((λ _ e. omega arith), ((λ _ e. omega arith), ((λ _ e. omega arith), ((λ _ e. omega arith), ((λ _ e. omega arith), ((λ _ e. omega arith), ((λ _ e. omega arith), ((λ t e. false-true t), tt)))))))))

pub kind_eight : (c : Chip) (d : ℕ) → kind_of c d ≡ 8 → has_gateway_state c ≡ true
kind_eight Gen6 d e = refl
kind_eight Gen7 d e = absurd (no_eight d e)

-- a row after those of a table that decide
late_row : (rs : List (Row ℕ)) (r : Row ℕ) → (first_row no_kind rs ≡ no_kind → ⊥) → first_row no_kind (rs ++ (r ∷ [])) ≡ first_row no_kind rs
late_row [] r n = absurd (n refl)
late_row (x ∷ rs) r n = go x.holds n (late_row rs r)
  where
    go : (t : Bool) → (cond t x.gives (first_row no_kind rs) ≡ no_kind → ⊥)
        → ((first_row no_kind rs ≡ no_kind → ⊥) → first_row no_kind (rs ++ (r ∷ [])) ≡ first_row no_kind rs)
        → cond t x.gives (first_row no_kind (rs ++ (r ∷ []))) ≡ cond t x.gives (first_row no_kind rs)
    go true m ih = refl
    go false m ih = ih m

-- a kind of Gen7's table is the same in Gen6's
pub one_kind : (d : ℕ) → (kind_of Gen7 d ≡ no_kind → ⊥) → kind_of Gen6 d ≡ kind_of Gen7 d
unfolding kind_of
one_kind d n =
    late_row
    (row 0 (is_kind 0 d) ∷ row 1 (is_kind 1 d) ∷ row 2 (is_kind 2 d) ∷ row 3 (is_kind 3 d) ∷ row 4 (is_kind 4 d) ∷ row 5 (is_kind 5 d) ∷ row 6 (is_kind 6 d)
    ∷ row 7 (is_kind 7 d) ∷ [])
    (row 8 (is_kind 8 d)) n
