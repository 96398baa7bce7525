-- Numbers and names as the code has them are those of the text. Assumes nothing.
use Rattle.std.proofs.Common.{◌≡◌, refl, sym, ap, ◌∙◌, List, [], ◌∷◌, ◌++◌, ℕ, zero, suc, ◌+◌, ◌-◌, ◌/◌, ◌%◌, ◌≤◌, ◌<◌, arith, length, drop, set, append_assoc, append-nil, map, get_or, lt-ltb, le-ltb, add-one}
use Rattle.std.proofs.lemmas.List.{drop-set}
use Rattle.std.proofs.Math.ListN.{drop_of_length-le}
use Rattle.text.specs.Lines.{spell, number_of, names, name_of, space, newline, line_of}

-- the last digit of what is left
more : (r f : ℕ) (l : List ℕ) → 10 ≤ r → 0 < f → f ≤ length l → spell f r ++ drop f l ≡ spell (f - 1) (r / 10) ++ drop (f - 1) (set l (f - 1) (48 + r % 10))
unfolding spell
more r zero l h p q = absurd (omega arith)
more r (suc k) l h p q =
    let e : suc k - 1 ≡ k = omega arith in
    let d = drop-set l k (48 + r % 10) (omega arith) in
    rw (e, le-ltb r 10 h, d, add-one k) (append_assoc (spell k (r / 10)) ((48 + r % 10) ∷ []) (drop (suc k) l))

-- the first digit
first : (r f : ℕ) (l : List ℕ) → r < 10 → 0 < f → f ≤ length l → spell f r ++ drop f l ≡ drop (f - 1) (set l (f - 1) (48 + r))
unfolding spell
first r zero l h p q = absurd (omega arith)
first r (suc k) l h p q =
    let e : suc k - 1 ≡ k = omega arith in
    let d = drop-set l k (48 + r) (omega arith) in
    rw (e, lt-ltb r 10 h, d, add-one k)

-- A number's text is the digits of what is left of it, and then those that stand already. At first none stands.
pub begun : (n : ℕ) (l : List ℕ) → length l ≡ 20 → number_of n ≡ spell 20 n ++ drop 20 l
unfolding number_of
begun n l h = rw (drop_of_length-le l {i = 20} (omega arith)) (sym (append-nil (spell 20 n)))

-- the digits before f still to be written
module _ (n r f : ℕ) (l : List ℕ) (e : number_of n ≡ spell f r ++ drop f l) (h : f ≤ length l) where
  pub digit_more : 0 < f → (r / 10 ≡ 0 → ⊥) → number_of n ≡ spell (f - 1) (r / 10) ++ drop (f - 1) (set l (f - 1) (48 + r % 10))
  digit_more p q = e ∙ more r f l (omega arith) p h

  pub digit_first : 0 < f → r / 10 ≡ 0 → drop (f - 1) (set l (f - 1) (48 + r % 10)) ≡ number_of n
  digit_first p q =
      let s : r < 10 = omega arith in
      let m : r % 10 ≡ r = omega arith in
      sym (e ∙ first r f l s p h ∙ ap (λ (d : ℕ). drop (f - 1) (set l (f - 1) (48 + d))) (sym m))

  pub digits_all : f ≤ 0 → l ≡ number_of n
  unfolding spell
  digits_all q = let z : f ≡ 0 = omega arith in sym (e ∙ ap (λ (i : ℕ). spell i r ++ drop i l) z)

pub ruleset digit_laws = (begun, digit_more, digit_first, digits_all)

-- a name between two spaces
abbrev names_spaced : List (List ℕ)
names_spaced = map (λ (n : List ℕ). space ++ n ++ space) names

named : (kind : ℕ) → kind < 9 → get_or names_spaced kind [] ≡ space ++ name_of kind ++ space
unfolding name_of
named zero h = refl
named (suc zero) h = refl
named (suc (suc zero)) h = refl
named (suc (suc (suc zero))) h = refl
named (suc (suc (suc (suc zero)))) h = refl
named (suc (suc (suc (suc (suc zero))))) h = refl
named (suc (suc (suc (suc (suc (suc zero)))))) h = refl
named (suc (suc (suc (suc (suc (suc (suc zero))))))) h = refl
named (suc (suc (suc (suc (suc (suc (suc (suc zero)))))))) h = refl
named (suc (suc (suc (suc (suc (suc (suc (suc (suc i))))))))) h = absurd (omega arith)

-- what `line` shows
pub line_is : (place kind total : ℕ) → kind < 9
    → [] ++ number_of place ++ get_or names_spaced kind [] ++ number_of total ++ newline ≡ line_of place kind total
unfolding line_of
line_is place kind total h =
    ap (λ (s : List ℕ). [] ++ number_of place ++ s ++ number_of total ++ newline) (named kind h) ∙ simp append_assoc
