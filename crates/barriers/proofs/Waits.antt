-- Masks and who waits: each says the other. Assumes nothing.
use mathlib.Core.Path.{◌≡◌, refl, sym, ap, ◌∙◌}
use mathlib.Core.Bool.{Bool, true, false, ◌&&◌}
use mathlib.Core.List.{List}
use Prim.Native.Nat.{ℕ, zero, suc, ◌/◌, ◌%◌, ◌^◌, ◌≤◌, ◌<◌}
use native.Mathlib.Nat.{zero-div}
use native.Mathlib.Omega.{arith}
use lib.Dec.{eqb, ltb}
use lib.ListN.{length, get_or, replicate, get_or-eq_default}
use lib.Pow.{pow_mono}
use lib.Seq.{ext_get_or}
use borrow.Author.Tests.{ltb-true, ltb-false, lt-ltb, eqb-true, eqb-false}
use Rattle.laws.specs.Filled.{filled}
use Rattle.laws.proofs.Choices.{by_test, and_left, and_right, not_both}
use Rattle.laws.proofs.Filled.{filled_long, filled_at}
use Rattle.event.specs.declared.Head.{Head}
use Rattle.event.specs.declared.Setup.{Setup}
use Rattle.event.specs.Groups.{no_group, group_of, waits_of, Grouped}
use Rattle.event.specs.Gateways.{closed}
use Rattle.event.specs.Decision.{Decision}
use Rattle.event.specs.ByKind.{decision_among}
use Rattle.event.proofs.Reach.{closed_window, decision_within}
use Rattle.event.proofs.Sources.{decision_source}
use Rattle.effects.specs.Effects.{waits_after}
use Rattle.effects.proofs.Waits.{Threads, Members, threads_after, members_after, waits_long}
use Rattle.barriers.specs.Barriers.{masks, member_mask, member_masks, waiting_of, waiting_in, waits_by, waits_in, Masked}
use Rattle.barriers.proofs.MemberMasks.{bits_lt, mask_at, masks_same}
use Rattle.barriers.proofs.Masks.{bit_tells, none_waiting}

-- ---- masks

module _ (s : Setup) where
  pub sixteen_masks : (ws : List Bool) → length (waiting_in s ws) ≡ 16
  unfolding masks
  sixteen_masks ws = filled_long (λ b. waiting_of s.threads s.groups b ws) (replicate 16 0) 16

  pub sixteen_members : length (member_masks s) ≡ 16
  unfolding masks
  sixteen_members = filled_long (member_mask s.threads s.groups) (replicate 16 0) 16

  masks_low : s.threads ≤ 16 → (ws : List Bool) (b : ℕ) → get_or (waiting_in s ws) b 0 < 65536
  masks_low few ws b =
      by_test (ltb b 16)
      (λ q. rw (mask_at (λ c. waiting_of s.threads s.groups c ws) b (ltb-true b 16 q))
      (omega (arith, bits_lt (λ t. eqb (group_of s.groups t) b && waits_of ws t) s.threads, pow_mono {i = s.threads} {j = 16} few)))
      (λ q. rw (get_or-eq_default (waiting_in s ws) 0 {n = b} (omega (arith, ltb-false b 16 q, sixteen_masks ws))) (omega arith))

  -- those that the code keeps: how many, and how large one can be
  module _ {members waiting : List ℕ} (m : Masked s members waiting) where
    pub members_long : length members ≡ 16
    members_long = ap length m.own_members ∙ sixteen_members

    pub waiting_long : length waiting ≡ 16
    waiting_long = ap length m.own_waiting ∙ sixteen_masks (waits_in s waiting)

    pub waiting_low : s.threads ≤ 16 → (b : ℕ) → get_or waiting b 0 < 65536
    waiting_low few b = rw m.own_waiting (masks_low few (waits_in s waiting) b)

-- ---- who waits

pub waits_in_long : (s : Setup) (waiting : List ℕ) → length (waits_in s waiting) ≡ 16
unfolding waits_in
waits_in_long s waiting = filled_long (waits_by s waiting) (replicate 16 false) 16

waits_in_at : (s : Setup) (waiting : List ℕ) (t : ℕ) → t < 16 → waits_of (waits_in s waiting) t ≡ waits_by s waiting t
unfolding waits_in
waits_in_at s waiting t h = filled_at (waits_by s waiting) (replicate 16 false) false 16 t h (omega arith)

-- a mask of no barrier has no bit
no_bit : (waiting : List ℕ) (b t : ℕ) → length waiting ≡ 16 → 16 ≤ b → eqb (get_or waiting b 0 / 2 ^ t % 2) 1 ≡ false
no_bit waiting b t l h =
    rw (get_or-eq_default waiting 0 {n = b} (omega arith), zero-div (2 ^ t)) refl

module _ (s : Setup) (waiting : List ℕ) (long : length waiting ≡ 16) where
  below : (t : ℕ) → waits_of (waits_in s waiting) t ≡ true → t < 16
  below t e =
      by_test (ltb t 16) (λ q. ltb-true t 16 q)
      (λ q. absurd (not_both _ e (get_or-eq_default (waits_in s waiting) false {n = t} (omega (arith, ltb-false t 16 q, waits_in_long s waiting)))))

  by_masks : (t : ℕ) → waits_of (waits_in s waiting) t ≡ true → waits_by s waiting t ≡ true
  by_masks t e = sym (waits_in_at s waiting t (below t e)) ∙ e

  -- whoever waits is a thread that has a group
  pub in_threads : Threads s (waits_in s waiting)
  in_threads t e = ltb-true t s.threads (and_left (ltb t s.threads) _ (by_masks t e))

  pub in_groups : Members s (waits_in s waiting)
  in_groups t e g =
      not_both _ (and_right (ltb t s.threads) _ (by_masks t e))
      (no_bit waiting (group_of s.groups t) t long (omega arith))

-- masks of threads that have a group say who waits
module _ (s : Setup) (grouped : Grouped s) (ws : List Bool) (long : length ws ≡ 16) (threads : Threads s ws) (members : Members s ws) where
  told : (t : ℕ) → t < s.threads → (group_of s.groups t ≡ no_group → ⊥)
      → eqb (get_or (waiting_in s ws) (group_of s.groups t) 0 / 2 ^ t % 2) 1 ≡ waits_of ws t
  told t l n =
      let b = group_of s.groups t in
      ap (λ (m : ℕ). eqb (m / 2 ^ t % 2) 1) (mask_at (λ c. waiting_of s.threads s.groups c ws) b (grouped.known t l n))
      ∙ bit_tells s.groups b ws s.threads t l refl

  at : (t : ℕ) → waits_by s (waiting_in s ws) t ≡ waits_of ws t
  at t =
      by_test (waits_of ws t)
      (λ w. let l = threads t w in simp (lt-ltb t s.threads l) (told t l (members t w)))
      (λ w. by_test (ltb t s.threads)
      (λ q. simp q (by_test (eqb (group_of s.groups t) no_group)
      (λ g. no_bit (waiting_in s ws) (group_of s.groups t) t (sixteen_masks s ws) (omega (arith, eqb-true (group_of s.groups t) no_group g)) ∙ sym w)
      (λ g. told t (ltb-true t s.threads q) (eqb-false (group_of s.groups t) no_group g))))
      (λ q. simp q (sym w)))

  pub waits_back : waits_in s (waiting_in s ws) ≡ ws
  waits_back =
      ext_get_or false (waits_in s (waiting_in s ws)) ws (waits_in_long s (waiting_in s ws) ∙ sym long)
      (λ t h. waits_in_at s (waiting_in s ws) t (omega (arith, waits_in_long s (waiting_in s ws))) ∙ at t)

-- before the first event nobody waits: a list of one value has no other, nor behind its end
pub replicated : {A : Type 0} (x : A) (n t : ℕ) → get_or (replicate n x) t x ≡ x
replicated x zero t = refl
replicated x (suc n) zero = refl
replicated x (suc n) (suc t) = replicated x n t

module _ (s : Setup) where
  pub none_yet : replicate 16 0 ≡ waiting_in s (replicate 16 false)
  unfolding masks filled
  none_yet =
      masks_same (λ _. 0) (λ b. waiting_of s.threads s.groups b (replicate 16 false))
      (λ b _. sym (none_waiting s.groups b (replicate 16 false) s.threads (λ t _ _. replicated false 16 t)))

  pub nobody : Grouped s → waits_in s (replicate 16 0) ≡ replicate 16 false
  nobody g =
      ap (waits_in s) none_yet
      ∙ waits_back s g (replicate 16 false) refl (λ t e. absurd (not_both _ e (replicated false 16 t))) (λ t e _. absurd (not_both _ e (replicated false 16 t)))

-- after a message
pub after_message : (h : Head) (s : Setup) (waiting : List ℕ) → Grouped s → length waiting ≡ 16
    → waits_in s (waiting_in s (waits_after (decision_among h s (waits_in s waiting)) s (waits_in s waiting))) ≡ waits_after (decision_among h s (waits_in s waiting)) s (waits_in s waiting)
after_message h s waiting g long =
    let ws = waits_in s waiting in
    let d : Decision = decision_among h s ws in
    let z = decision_source h s closed ws in
    waits_back s g (waits_after d s ws) (waits_long s d ws ∙ waits_in_long s waiting)
    (threads_after s ws h closed d (decision_within h s closed ws closed_window) (in_threads s waiting long))
    (members_after s ws h closed d z (in_groups s waiting long))
