-- Who waits at a barrier, as a mask: its bits, a thread that comes, a group that is whole, and one that is released. Assumes nothing.
use mathlib.Core.Path.{◌≡◌, refl, sym, ap, subst, ◌∙◌}
use mathlib.Core.Bool.{Bool, true, false, cond, ◌&&◌}
use mathlib.Core.List.{List}
use Prim.Native.Nat.{ℕ, zero, suc, ◌+◌, ◌*◌, ◌-◌, ◌/◌, ◌%◌, ◌^◌, ◌<◌}
use native.Mathlib.Nat.{pow-suc, add-mul-div_right, add_comm, mul_assoc}
use native.Mathlib.Numerals.{add-one}
use native.Mathlib.Omega.{arith}
use lib.Arith.{digits_div}
use lib.Dec.{eqb}
use lib.ListN.{length, set}
use lib.Pow.{pow-add, pow_pos}
use lib.Seq.{get_or-set_same, get_or-set_other}
use borrow.Author.Tests.{eq-eqb, ne_eqb, eqb-true, eqb-false}
use Rattle.laws.proofs.Choices.{by_cond, two_cond, by_test}
use Rattle.event.specs.Groups.{group_of, waits_of, bits_where, over_members, all_wait}
use Rattle.barriers.proofs.MemberMasks.{bits_lt}
use Rattle.barriers.specs.Barriers.{member_mask, waiting_of}

module _ (groups : List ℕ) (b : ℕ) (waits : List Bool) where
  -- 1 where thread t is of the group and waits
  unfoldable pub bit_of : ℕ → ℕ
  bit_of t = cond (eqb (group_of groups t) b && waits_of waits t) 1 0

  bit_small : (t : ℕ) → bit_of t < 2
  unfolding bit_of
  bit_small t = by_cond (λ (x : ℕ). x < 2) (eqb (group_of groups t) b && waits_of waits t) _ _ (λ _. omega arith) (λ _. omega arith)

  top : (n : ℕ) → waiting_of (suc n) groups b waits ≡ bit_of n * 2 ^ n + waiting_of n groups b waits
  unfolding bits_where bit_of
  top n = two_cond (λ (x y : ℕ). x ≡ y * 2 ^ n + waiting_of n groups b waits) (eqb (group_of groups n) b && waits_of waits n) _ _ _ _ (λ _. omega arith) (λ _. omega arith)

  even : (x y : ℕ) → (x + y * 2) % 2 ≡ x % 2
  even x y = omega arith

  pub mask_bit : (n t : ℕ) → t < n → waiting_of n groups b waits / 2 ^ t % 2 ≡ bit_of t
  mask_bit zero t h = absurd (omega arith)
  mask_bit (suc n) t h =
      by_test (eqb t n)
      (λ q. let d : (bit_of n * 2 ^ n + waiting_of n groups b waits) / 2 ^ n ≡ bit_of n = digits_div (bit_of n) (bits_lt _ n) in
      rw (eqb-true t n q, top n, d) (omega (arith, bit_small n)))
      (λ q. let u = eqb-false t n q in
      let k : n ≡ (n - t - 1) + 1 + t = omega arith in
      let p : ℕ = 2 ^ (n - t - 1) in
      let o : ℕ = bit_of n in
      let m : ℕ = waiting_of n groups b waits in
      let e : 2 ^ n ≡ p * 2 * 2 ^ t = ap (λ (x : ℕ). 2 ^ x) k ∙ pow-add 2 (n - t - 1 + 1) t ∙ ap (λ (x : ℕ). x * 2 ^ t) (ap (λ (x : ℕ). 2 ^ x) (add-one (n - t - 1)) ∙ pow-suc 2 (n - t - 1)) in
      let f : o * 2 ^ n + m ≡ m + o * p * 2 * 2 ^ t = add_comm (o * 2 ^ n) m ∙ ap (λ (x : ℕ). m + x) (ap (λ (x : ℕ). o * x) e ∙ sym (mul_assoc o (p * 2) (2 ^ t)) ∙ ap (λ (x : ℕ). x * 2 ^ t) (sym (mul_assoc o p 2))) in
      let g : (m + o * p * 2 * 2 ^ t) / 2 ^ t ≡ m / 2 ^ t + o * p * 2 = add-mul-div_right m (o * p * 2) (pow_pos t) in
      rw (top n, f, g) (even (m / 2 ^ t) (o * p) ∙ mask_bit n t (omega arith)))

  -- a bit tells of a member whether it waits
  pub bit_tells : (n t : ℕ) → t < n → group_of groups t ≡ b → eqb (waiting_of n groups b waits / 2 ^ t % 2) 1 ≡ waits_of waits t
  unfolding bit_of
  bit_tells n t h e =
      rw (mask_bit n t h) (by_test (waits_of waits t) (λ q. simp (eq-eqb _ _ e, q)) (λ q. simp (eq-eqb _ _ e, q)))

  -- nobody's mask is 0
  pub none_waiting : (n : ℕ) → ((t : ℕ) → t < n → group_of groups t ≡ b → waits_of waits t ≡ false) → waiting_of n groups b waits ≡ 0
  unfolding bits_where
  none_waiting zero e = refl
  none_waiting (suc n) e =
      let ih = none_waiting n (λ t h. e t (omega arith)) in
      by_test (eqb (group_of groups n) b) (λ q. simp (q, e n (omega arith) (eqb-true _ _ q)) ih) (λ q. simp q ih)

-- a number more on either side
eqb_add : (x y k : ℕ) → eqb (x + k) (y + k) ≡ eqb x y
eqb_add x y k =
    by_test (eqb x y)
    (λ q. eq-eqb (x + k) (y + k) (ap (λ (z : ℕ). z + k) (eqb-true x y q)) ∙ sym q)
    (λ q. let n = eqb-false x y q in ne_eqb (x + k) (y + k) (λ e. n (omega arith)) ∙ sym q)

module _ (groups : List ℕ) (b : ℕ) where
  -- every member waits where the mask is the members'
  pub whole_mask : (ws : List Bool) (n : ℕ) → all_wait n groups b ws ≡ eqb (waiting_of n groups b ws) (member_mask n groups b)
  unfolding over_members bits_where
  whole_mask ws zero = refl
  whole_mask ws (suc n) =
      let ih = whole_mask ws n in
      by_test (eqb (group_of groups n) b)
      (λ q. by_test (waits_of ws n)
      (λ w. simp (q, w) (ih ∙ sym (eqb_add (waiting_of n groups b ws) (member_mask n groups b) (2 ^ n))))
      (λ w. simp (q, w) (sym (ne_eqb (waiting_of n groups b ws) (member_mask n groups b + 2 ^ n) (λ e. omega (arith, bits_lt (λ t. eqb (group_of groups t) b && waits_of ws t) n))))))
      (λ q. simp q ih)

  -- masks are one where the members wait alike
  pub waiting_same : (ws ws' : List Bool) (n : ℕ) → ((t : ℕ) → t < n → group_of groups t ≡ b → waits_of ws t ≡ waits_of ws' t)
      → waiting_of n groups b ws ≡ waiting_of n groups b ws'
  unfolding bits_where
  waiting_same ws ws' zero e = refl
  waiting_same ws ws' (suc n) e =
      let ih = waiting_same ws ws' n (λ t h. e t (omega arith)) in
      by_test (eqb (group_of groups n) b)
      (λ q. λ j. cond (eqb (group_of groups n) b && e n (omega arith) (eqb-true _ _ q) j) (ih j + 2 ^ n) (ih j))
      (λ q. simp q ih)

  -- a member that comes is one bit more
  pub waiting_set : (ws : List Bool) (t : ℕ) → group_of groups t ≡ b → waits_of ws t ≡ false → t < length ws → (n : ℕ) → t < n
      → waiting_of n groups b (set ws t true) ≡ waiting_of n groups b ws + 2 ^ t
  unfolding bits_where
  waiting_set ws t e f l zero h = absurd (omega arith)
  waiting_set ws t e f l (suc n) h =
      by_test (eqb t n)
      (λ q. subst (λ (m : ℕ). waiting_of (suc m) groups b (set ws t true) ≡ waiting_of (suc m) groups b ws + 2 ^ t) (eqb-true t n q)
      (simp (eq-eqb _ _ e, get_or-set_same ws t true false l, f)
      (ap (λ (x : ℕ). x + 2 ^ t) (waiting_same (set ws t true) ws t (λ u i _. get_or-set_other ws t u true false (λ z. omega arith))))))
      (λ q. let z = eqb-false t n q in
      let ih = waiting_set ws t e f l n (omega arith) in
      (λ j. cond (eqb (group_of groups n) b && get_or-set_other ws t n true false (λ y. z (sym y)) j) (ih j + 2 ^ n) (ih j))
      ∙ two_cond (λ (x y : ℕ). x ≡ y + 2 ^ t) (eqb (group_of groups n) b && waits_of ws n) _ _ _ _ (λ _. omega arith) (λ _. refl))
