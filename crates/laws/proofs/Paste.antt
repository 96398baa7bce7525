-- What stands at an index after a paste, and two pastes that agree at an index. For any lists. Assumes nothing.
use mathlib.Core.Path.{◌≡◌, sym, ap, ◌∙◌, subst}
use mathlib.Core.List.{List, ◌++◌}
use Prim.Native.Nat.{ℕ, ◌+◌, ◌-◌, ◌≤◌, ◌<◌}
use native.Mathlib.Nat.{add-sub_of_le}
use native.Mathlib.Omega.{arith}
use lib.Dec.{ltb}
use lib.ListN.{length, get_or, take, get_or-append}
use lib.Seq.{paste, take-paste, drop-paste, get_or-take, get_or-drop, get_or-append-add, length-take-le}
use borrow.Author.Tests.{ltb-true, ltb-false}
use Rattle.laws.proofs.Choices.{by_test}

module _ {A : Type 0} (z : A) (d : List A) (at : ℕ) (s : List A) (n : ℕ) (hd : at + n ≤ length d) (hs : n ≤ length s) where
  low : (k : ℕ) → k < at + n → get_or (paste d at s n) k z ≡ get_or (take at d ++ take n s) k z
  low k h = sym (get_or-take (at + n) (paste d at s n) k z h) ∙ ap (λ (l : List A). get_or l k z) (take-paste d at s n (omega arith) hs)

  pub paste_before : (k : ℕ) → k < at → get_or (paste d at s n) k z ≡ get_or d k z
  paste_before k h = low k (omega arith) ∙ get_or-append (take at d) (take n s) z k (rw (length-take-le at d (omega arith)) h) ∙ get_or-take at d k z h

  pub paste_in : (j : ℕ) → j < n → get_or (paste d at s n) (at + j) z ≡ get_or s j z
  paste_in j h =
      low (at + j) (omega arith)
      ∙ subst (λ (m : ℕ). get_or (take at d ++ take n s) (m + j) z ≡ get_or (take n s) j z) (length-take-le at d (omega arith)) (get_or-append-add (take at d) (take n s) j z)
      ∙ get_or-take n s j z h

  paste_past : (j : ℕ) → get_or (paste d at s n) (at + n + j) z ≡ get_or d (at + n + j) z
  paste_past j = sym (get_or-drop (at + n) (paste d at s n) j z) ∙ ap (λ (l : List A). get_or l j z) (drop-paste d at s n (omega arith) hs) ∙ get_or-drop (at + n) d j z

  pub paste_after : (k : ℕ) → at + n ≤ k → get_or (paste d at s n) k z ≡ get_or d k z
  paste_after k h = subst (λ (m : ℕ). get_or (paste d at s n) m z ≡ get_or d m z) (add-sub_of_le h) (paste_past (k - (at + n)))

-- two pastes of n at one place agree at k where the lists did, if they agree in what lands there
pub paste_agree : {A : Type 0} (z : A) (d d' : List A) (at : ℕ) (s s' : List A) (n k : ℕ) → at + n ≤ length d → at + n ≤ length d' → n ≤ length s → n ≤ length s'
    → (at ≤ k → k < at + n → get_or s (k - at) z ≡ get_or s' (k - at) z) → get_or d k z ≡ get_or d' k z → get_or (paste d at s n) k z ≡ get_or (paste d' at s' n) k z
paste_agree {A} z d d' at s s' n k hd hd' hs hs' e q =
    by_test (ltb k at)
    (λ b. let h = ltb-true k at b in paste_before z d at s n hd hs k h ∙ q ∙ sym (paste_before z d' at s' n hd' hs' k h))
    (λ b. let h = ltb-false k at b in
    by_test (ltb k (at + n))
    (λ c. let g = ltb-true k (at + n) c in
    subst (λ (m : ℕ). get_or (paste d at s n) m z ≡ get_or (paste d' at s' n) m z) (add-sub_of_le h)
    (paste_in z d at s n hd hs (k - at) (omega arith) ∙ e h g ∙ sym (paste_in z d' at s' n hd' hs' (k - at) (omega arith))))
    (λ c. let g = ltb-false k (at + n) c in paste_after z d at s n hd hs k g ∙ q ∙ sym (paste_after z d' at s' n hd' hs' k g)))
