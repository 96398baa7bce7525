-- The own dwords of a command, gathered one by one. Assumes nothing.
use mathlib.Core.Path.{◌≡◌, refl, sym, ap, ap₂, subst, ◌∙◌}
use mathlib.Core.Bool.{Bool, true, false, cond}
use Prim.Native.Nat.{ℕ, zero, suc, ◌+◌, ◌-◌, ◌<◌, ◌≤◌}
use native.Mathlib.Omega.{arith}
use mathlib.Core.List.{List, [], ◌∷◌, ◌++◌, append-nil, append_assoc}
use lib.ListN.{length, get_or, take, drop, set, length-set, length-drop, length-append, get_or-append, get_or-eq_default}
use lib.Seq.{get_or-set_other, get_or-set_same, get_or-take, get_or-drop, length-take-le}
use lib.Dec.{ltb, eqb}
use borrow.Author.Tests.{ltb-true, ltb-false, lt-ltb, le-ltb, eqb-true, eqb-false}
use denote.Param.Members.{Mut, Called}
use Rattle.std.specs.Array.{IsFromFnResultFrom, IsFromFnResult}
use Rattle.laws.proofs.Choices.{by_test}
use Rattle.command.specs.declared.State.{State}
use Rattle.command.specs.Kinds.{kind_of, total_of, head_of, own_dwords}
use Rattle.command.proofs.Heads.{head_same}
use Rattle.progress.specs.Steps.{kind_in, total_in, alone, gathered}
use Rattle.progress.specs.Parts.{gathered_in, picked}

-- the own dwords h after several dwords more, where g of the command have come before them
unfoldable pub gathered_all : State → List ℕ → ℕ → List ℕ → List ℕ
gathered_all st h g [] = h
gathered_all st h g (d ∷ ds) = gathered_all st (gathered st h g d) (g + 1) ds

zeros : (t : Bool) → ◌≡◌ {A = ℕ} (cond t 0 0) 0
zeros true = refl
zeros false = refl

-- a command's first dword alone
pub first_head : (k d : ℕ) → alone d ≡ head_of k (d ∷ [])
unfolding head_of
first_head k d =
    simp (
      zeros (ltb 1 (own_dwords k)),
      zeros (ltb 2 (own_dwords k)),
      zeros (ltb 3 (own_dwords k)),
      zeros (ltb 4 (own_dwords k)),
      zeros (ltb 5 (own_dwords k)),
      zeros (ltb 6 (own_dwords k)),
      zeros (ltb 7 (own_dwords k)),
    )

module _ (k a x : ℕ) where
  -- an own dword is set at its place; a dword past the eight is none
  own_more : (p : List ℕ) → ltb (suc (length p)) (own_dwords k) ≡ true → set (head_of k (a ∷ p)) (suc (length p)) x ≡ head_of k (a ∷ (p ++ (x ∷ [])))
  unfolding head_of
  own_more [] e = simp e
  own_more (b ∷ []) e = simp e
  own_more (b ∷ c ∷ []) e = simp e
  own_more (b ∷ c ∷ d ∷ []) e = simp e
  own_more (b ∷ c ∷ d ∷ f ∷ []) e = simp e
  own_more (b ∷ c ∷ d ∷ f ∷ g ∷ []) e = simp e
  own_more (b ∷ c ∷ d ∷ f ∷ g ∷ h ∷ []) e = simp e
  own_more (b ∷ c ∷ d ∷ f ∷ g ∷ h ∷ i ∷ p) e = refl

  -- every other dword is passed over
  own_over : (p : List ℕ) → own_dwords k ≤ suc (length p) → head_of k (a ∷ p) ≡ head_of k (a ∷ (p ++ (x ∷ [])))
  own_over p h = head_same k (a ∷ p) (a ∷ (p ++ (x ∷ []))) (λ i q. sym (get_or-append (a ∷ p) (x ∷ []) 0 i (omega arith)))

  own_either : (p : List ℕ) (t : Bool) → ltb (suc (length p)) (own_dwords k) ≡ t
      → cond t (set (head_of k (a ∷ p)) (suc (length p)) x) (head_of k (a ∷ p)) ≡ head_of k (a ∷ (p ++ (x ∷ [])))
  own_either p true e = own_more p e
  own_either p false e = own_over p (ltb-false (suc (length p)) (own_dwords k) e)

module _ (st : State) (a : ℕ) where
  abbrev k : ℕ
  k = kind_of st.chip a

  gather : (x : ℕ) (p : List ℕ) → gathered st (head_of k (a ∷ p)) (suc (length p)) x ≡ head_of k (a ∷ (p ++ (x ∷ [])))
  unfolding gathered head_of
  gather x p = own_either k a x p (ltb (suc (length p)) (own_dwords k)) refl

  -- LAW: gathering gives the own dwords of what has come
  pub gather_all : (q p : List ℕ) → gathered_all st (head_of k (a ∷ p)) (suc (length p)) q ≡ head_of k (a ∷ (p ++ q))
  unfolding gathered_all
  gather_all [] p = ap (λ (x : List ℕ). head_of k (a ∷ x)) (sym (append-nil p))
  gather_all (x ∷ q) p =
      let n : suc (length p) + 1 ≡ suc (length (p ++ (x ∷ []))) = simp length-append (omega arith) in
      ap₂ (λ (h : List ℕ) (g : ℕ). gathered_all st h g q) (gather x p) n
      ∙ gather_all q (p ++ (x ∷ []))
      ∙ ap (λ (r : List ℕ). head_of k (a ∷ r)) (append_assoc p (x ∷ []) q)

-- the first dword stays, and with it kind and total
module _ (st : State) (h : List ℕ) (g d : ℕ) (n : g ≡ 0 → ⊥) where
  first_kept : get_or (gathered st h g d) 0 0 ≡ get_or h 0 0
  unfolding gathered
  first_kept = go (ltb g (own_dwords (kind_in st h)))
    where
      go : (t : Bool) → get_or (cond t (set h g d) h) 0 0 ≡ get_or h 0 0
      go true = get_or-set_other h g 0 d 0 (λ e. n (sym e))
      go false = refl

  own_kept : own_dwords (kind_in st (gathered st h g d)) ≡ own_dwords (kind_in st h)
  own_kept = ap (λ (x : ℕ). own_dwords (kind_of st.chip x)) first_kept

  pub total_kept : total_in st (gathered st h g d) ≡ total_in st h
  total_kept = ap (λ (x : ℕ). total_of (kind_of st.chip x) x) first_kept

-- LAW: gathering by the number of own dwords
pub gathered_in_lem : (st : State) (l h : List ℕ) (g : ℕ) → (g ≡ 0 → ⊥) → gathered_all st h g l ≡ gathered_in (own_dwords (kind_in st h)) h g l
unfolding gathered_all gathered_in gathered
gathered_in_lem st [] h g n = refl
gathered_in_lem st (d ∷ l) h g n =
    gathered_in_lem st l (gathered st h g d) (g + 1) (λ e. omega arith)
    ∙ ap (λ (m : ℕ). gathered_in m (gathered st h g d) (g + 1) l) (own_kept st h g d n)

-- where all own dwords have come, nothing is gathered
pub gather_over : (most : ℕ) (l h : List ℕ) (g : ℕ) → most ≤ g → gathered_in most h g l ≡ h
unfolding gathered_in
gather_over most [] h g q = refl
gather_over most (d ∷ l) h g q =
    ap (λ (t : Bool). gathered_in most (cond t (set h g d) h) (g + 1) l) (le-ltb g most q) ∙ gather_over most l h (g + 1) (omega arith)

-- the first dword stays
pub first_all : (st : State) (l h : List ℕ) (g : ℕ) → (g ≡ 0 → ⊥) → get_or (gathered_all st h g l) 0 0 ≡ get_or h 0 0
unfolding gathered_all
first_all st [] h g n = refl
first_all st (d ∷ l) h g n = first_all st l (gathered st h g d) (g + 1) (λ e. omega arith) ∙ first_kept st h g d n

-- and the total
pub total_all : (st : State) (l h : List ℕ) (g : ℕ) → (g ≡ 0 → ⊥) → total_in st (gathered_all st h g l) ≡ total_in st h
total_all st l h g n = ap (λ (x : ℕ). total_of (kind_of st.chip x) x) (first_all st l h g n)

inside_end : (l : List ℕ) (i x y : ℕ) → i < length l → get_or l i x ≡ get_or l i y
inside_end [] i x y q = absurd (omega arith)
inside_end (d ∷ l) zero x y q = refl
inside_end (d ∷ l) (suc i) x y q = inside_end l i x y (omega arith)

-- one own dword, as the code asks for it
module _ (x j most g : ℕ) (l : List ℕ) (from n : ℕ) (room : from + n ≤ length l) where
  part : length (take n (drop from l)) ≡ n
  part = let z = length-drop from l in length-take-le n (drop from l) (omega arith)

  pub pick_none : most ≤ j → x ≡ picked x j most g (take n (drop from l))
  unfolding picked
  pick_none p = simp (le-ltb j most p)

  pub pick_came : j < g → x ≡ picked x j most g (take n (drop from l))
  unfolding picked
  pick_came p = go (ltb j most)
    where
      go : (t : Bool) → x ≡ cond t (cond (ltb j g) x (get_or (take n (drop from l)) (j - g) x)) x
      go true = simp (lt-ltb j g p)
      go false = refl

  pub pick_later : n ≤ j - g → x ≡ picked x j most g (take n (drop from l))
  unfolding picked
  pick_later p = go (ltb j most) (ltb j g)
    where
      go : (t u : Bool) → x ≡ cond t (cond u x (get_or (take n (drop from l)) (j - g) x)) x
      go true true = refl
      go true false = let z = part in sym (get_or-eq_default (take n (drop from l)) x (let y : length (take n (drop from l)) ≤ j - g = omega arith in y))
      go false u = refl

  pub pick_now : j < most → g ≤ j → j - g < n → get_or l (from + (j - g)) 0 ≡ picked x j most g (take n (drop from l))
  unfolding picked
  pick_now p q w =
      let z = part in
      simp (lt-ltb j most p, le-ltb j g q)
      (sym (inside_end (take n (drop from l)) (j - g) x 0 (omega arith) ∙ get_or-take n (drop from l) (j - g) 0 w ∙ get_or-drop from l (j - g) 0))

pub ruleset picks = (pick_none, pick_came, pick_later, pick_now)

gathered_length : (most : ℕ) (l h : List ℕ) (g : ℕ) → length (gathered_in most h g l) ≡ length h
unfolding gathered_in
gathered_length most [] h g = refl
gathered_length most (d ∷ l) h g = gathered_length most l (cond (ltb g most) (set h g d) h) (g + 1) ∙ go (ltb g most)
  where
    go : (t : Bool) → length (cond t (set h g d) h) ≡ length h
    go true = length-set h g d
    go false = refl

-- the dword that comes is own dword g, where the command has one
module _ (most : ℕ) (h : List ℕ) (g d j : ℕ) (q : j < length h) (ds : List ℕ) where
  abbrev h' : List ℕ
  h' = cond (ltb g most) (set h g d) h

  other_kept : (j ≡ g → ⊥) → get_or h' j 0 ≡ get_or h j 0
  other_kept n = go (ltb g most)
    where
      go : (t : Bool) → get_or (cond t (set h g d) h) j 0 ≡ get_or h j 0
      go true = get_or-set_other h g j d 0 n
      go false = refl

  pick_before : j < g → picked (get_or h' j 0) j most (g + 1) ds ≡ picked (get_or h j 0) j most g (d ∷ ds)
  unfolding picked
  pick_before p =
      ap (λ (x : ℕ). cond (ltb j most) (cond (ltb j (g + 1)) x (get_or ds (j - (g + 1)) x)) x) (other_kept (λ e. omega arith))
      ∙ simp (lt-ltb j g p, lt-ltb j (g + 1) (omega arith))

  pick_here : j ≡ g → picked (get_or h' j 0) j most (g + 1) ds ≡ picked (get_or h j 0) j most g (d ∷ ds)
  unfolding picked
  pick_here e =
      by_test (ltb g most)
      (λ p. let a = ltb-true g most p in
      let z : j - g ≡ 0 = omega arith in
      let y : get_or (cond (ltb g most) (set h g d) h) j 0 ≡ d = simp p (ap (λ (x : ℕ). get_or (set h g d) x 0) e ∙ get_or-set_same h g d 0 (omega arith)) in
      ap (λ (x : ℕ). cond (ltb j most) (cond (ltb j (g + 1)) x (get_or ds (j - (g + 1)) x)) x) y
      ∙ simp (lt-ltb j most (omega arith), lt-ltb j (g + 1) (omega arith), le-ltb j g (omega arith), z))
      (λ p. let a = ltb-false g most p in
      let y : get_or (cond (ltb g most) (set h g d) h) j 0 ≡ get_or h j 0 = simp p in
      ap (λ (x : ℕ). cond (ltb j most) (cond (ltb j (g + 1)) x (get_or ds (j - (g + 1)) x)) x) y ∙ simp (le-ltb j most (omega arith)))

  pick_after : g < j → picked (get_or h' j 0) j most (g + 1) ds ≡ picked (get_or h j 0) j most g (d ∷ ds)
  unfolding picked
  pick_after p =
      let z : j - g ≡ suc (j - (g + 1)) = omega arith in
      ap (λ (x : ℕ). cond (ltb j most) (cond (ltb j (g + 1)) x (get_or ds (j - (g + 1)) x)) x) (other_kept (λ e. omega arith))
      ∙ simp (le-ltb j (g + 1) (omega arith), le-ltb j g (omega arith), z)

  pick_step : picked (get_or h' j 0) j most (g + 1) ds ≡ picked (get_or h j 0) j most g (d ∷ ds)
  pick_step =
      by_test (ltb j g)
      (λ p. pick_before (ltb-true j g p))
      (λ p. let a = ltb-false j g p in
      by_test (ltb g j) (λ e. pick_after (ltb-true g j e)) (λ e. let b = ltb-false g j e in pick_here (omega arith)))

own_picked : (most : ℕ) (l h : List ℕ) (g j : ℕ) → j < length h → get_or (gathered_in most h g l) j 0 ≡ picked (get_or h j 0) j most g l
unfolding gathered_in picked
own_picked most [] h g j q = go (ltb j most) (ltb j g)
  where
    go : (t u : Bool) → get_or h j 0 ≡ cond t (cond u (get_or h j 0) (get_or h j 0)) (get_or h j 0)
    go true true = refl
    go true false = refl
    go false u = refl
own_picked most (d ∷ ds) h g j q =
    let z = step_length (ltb g most) in
    own_picked most ds (cond (ltb g most) (set h g d) h) (g + 1) j (omega arith) ∙ pick_step most h g d j q ds
  where
    step_length : (t : Bool) → length (cond t (set h g d) h) ≡ length h
    step_length true = length-set h g d
    step_length false = refl

eight : (l : List ℕ) → length l ≡ 8
    → l ≡ get_or l 0 0 ∷ get_or l 1 0 ∷ get_or l 2 0 ∷ get_or l 3 0 ∷ get_or l 4 0 ∷ get_or l 5 0 ∷ get_or l 6 0 ∷ get_or l 7 0 ∷ []
eight [] e = absurd (omega arith)
eight (a ∷ []) e = absurd (omega arith)
eight (a ∷ b ∷ []) e = absurd (omega arith)
eight (a ∷ b ∷ c ∷ []) e = absurd (omega arith)
eight (a ∷ b ∷ c ∷ d ∷ []) e = absurd (omega arith)
eight (a ∷ b ∷ c ∷ d ∷ f ∷ []) e = absurd (omega arith)
eight (a ∷ b ∷ c ∷ d ∷ f ∷ g ∷ []) e = absurd (omega arith)
eight (a ∷ b ∷ c ∷ d ∷ f ∷ g ∷ h ∷ []) e = absurd (omega arith)
eight (a ∷ b ∷ c ∷ d ∷ f ∷ g ∷ h ∷ i ∷ []) e = refl
eight (a ∷ b ∷ c ∷ d ∷ f ∷ g ∷ h ∷ i ∷ j ∷ l) e = absurd (omega arith)

-- eight numbers that are those of a list
pub eight_same : (l : List ℕ) → length l ≡ 8 → (a b c d f g h i : ℕ) → a ≡ get_or l 0 0 → b ≡ get_or l 1 0 → c ≡ get_or l 2 0 → d ≡ get_or l 3 0
    → f ≡ get_or l 4 0 → g ≡ get_or l 5 0 → h ≡ get_or l 6 0 → i ≡ get_or l 7 0 → a ∷ b ∷ c ∷ d ∷ f ∷ g ∷ h ∷ i ∷ [] ≡ l
eight_same l e a b c d f g h i ea eb ec ed ef eg eh ei =
    cons ea (cons eb (cons ec (cons ed (cons ef (cons eg (cons eh (cons ei refl))))))) ∙ sym (eight l e)
  where
    cons : {x y : ℕ} {xs ys : List ℕ} → x ≡ y → xs ≡ ys → ◌≡◌ {A = List ℕ} (x ∷ xs) (y ∷ ys)
    cons p q = ap₂ (λ (x : ℕ) (xs : List ℕ). x ∷ xs) p q

-- LAW: the own dwords one by one, as calls at 0 to 7 give them
module _ {F : Type 0} (calls : Mut F (ℕ × Unit {0}) ℕ) (f : F) (most : ℕ) (l h : List ℕ) (g : ℕ)
    (same : (i y : ℕ) (q : F) → Called calls f (i, tt) y q → (y ≡ picked (get_or h i 0) i most g l) × (q ≡ f)) where
  abbrev p : ℕ → ℕ
  p j = picked (get_or h j 0) j most g l

  made_from : (ys : List ℕ) (i n : ℕ) (s : F) → s ≡ f → IsFromFnResultFrom calls s ys i n → (j : ℕ) → j < n → get_or ys (i + j) 0 ≡ p (i + j)
  made_from ys i zero s e t j q = absurd (omega arith)
  made_from ys i (suc n) s e t j q =
      let one = same i t.1 t.0 (subst (λ (x : F). Called calls x (i, tt) t.1 t.0) e t.3) in
      by_test (eqb j 0)
      (λ z. let w : i + j ≡ i = let y = eqb-true j 0 z in omega arith in
      ap (λ (x : ℕ). get_or ys x 0) w ∙ t.2.1 0 ∙ one.0 ∙ ap p (sym w))
      (λ z. let w : i + 1 + (j - 1) ≡ i + j = let y = eqb-false j 0 z in omega arith in
      ap (λ (x : ℕ). get_or ys x 0) (sym w) ∙ made_from ys (i + 1) n t.0 one.1 t.4 (j - 1) (let y = eqb-false j 0 z in omega arith) ∙ ap p w)

  pub made_gathered : length h ≡ 8 → (ys : List ℕ) → IsFromFnResult calls f ys 8 → ys ≡ gathered_in most h g l
  made_gathered e ys t =
      eight ys t.long ∙ eight_same (gathered_in most h g l) (gathered_length most l h g ∙ e) _ _ _ _ _ _ _ _
      (own 0 (omega arith)) (own 1 (omega arith)) (own 2 (omega arith)) (own 3 (omega arith))
      (own 4 (omega arith)) (own 5 (omega arith)) (own 6 (omega arith)) (own 7 (omega arith))
    where
      own : (j : ℕ) → j < 8 → get_or ys j 0 ≡ get_or (gathered_in most h g l) j 0
      own j q =
          let z : 0 + j ≡ j = omega arith in
          ap (λ (x : ℕ). get_or ys x 0) (sym z) ∙ made_from ys 0 8 f refl t.each j q ∙ ap p z
          ∙ sym (own_picked most l h g j (omega arith))
