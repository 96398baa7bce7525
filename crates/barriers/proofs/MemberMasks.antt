-- The mask of each group's members, a thread at a time. Assumes nothing.
use mathlib.Core.Path.{◌≡◌, refl, sym, ap, ◌∙◌}
use mathlib.Core.Bool.{Bool}
use mathlib.Core.List.{List}
use Prim.Native.Nat.{ℕ, zero, suc, ◌+◌, ◌*◌, ◌^◌, ◌≤◌, ◌<◌}
use native.Mathlib.Nat.{pow-suc}
use native.Mathlib.Numerals.{add-one}
use native.Mathlib.Omega.{arith}
use lib.ListN.{get_or, set, replicate}
use borrow.Author.Tests.{eq-eqb, ne_eqb}
use Rattle.laws.specs.Filled.{filled}
use Rattle.laws.proofs.Choices.{by_cond}
use Rattle.laws.proofs.Filled.{filled_at, filled_same, filled_set}
use Rattle.event.specs.Groups.{group_of, bits_where}
use Rattle.barriers.specs.Barriers.{member_mask, masks}

-- bits of the first n threads
pub bits_lt : (test : ℕ → Bool) (n : ℕ) → bits_where test n < 2 ^ n
unfolding bits_where
bits_lt test zero = omega arith
bits_lt test (suc n) =
    let ih = bits_lt test n in
    let e : 2 ^ suc n ≡ 2 ^ n * 2 = pow-suc 2 n in
    by_cond (λ (x : ℕ). x < 2 ^ suc n) (test n) _ _ (λ _. omega arith) (λ _. omega arith)

-- an entry of sixteen masks, and sixteen that differ in one
pub mask_at : (f : ℕ → ℕ) (b : ℕ) → b < 16 → get_or (masks f) b 0 ≡ f b
unfolding masks
mask_at f b h = filled_at f (replicate 16 0) 0 16 b h (omega arith)

pub masks_same : (f f' : ℕ → ℕ) → ((k : ℕ) → k < 16 → f k ≡ f' k) → masks f ≡ masks f'
unfolding masks
masks_same f f' e = filled_same f f' (replicate 16 0) 16 e

pub masks_set : (f f' : ℕ → ℕ) (b : ℕ) → b < 16 → ((k : ℕ) → (k ≡ b → ⊥) → f k ≡ f' k) → set (masks f) b (f' b) ≡ masks f'
unfolding masks
masks_set f f' b h e = filled_set f f' (replicate 16 0) 16 b h e

module _ (groups : List ℕ) where
  pub no_members : replicate 16 0 ≡ masks (member_mask 0 groups)
  unfolding masks bits_where filled
  no_members = refl

  -- a thread of group b, and one of another
  mask_in : (t : ℕ) → member_mask t groups (group_of groups t) + 2 ^ t ≡ member_mask (t + 1) groups (group_of groups t)
  unfolding bits_where
  mask_in t = rw (add-one t) (simp (eq-eqb (group_of groups t) _ refl))

  mask_out : (t b : ℕ) → (group_of groups t ≡ b → ⊥) → member_mask t groups b ≡ member_mask (t + 1) groups b
  unfolding bits_where
  mask_out t b n = rw (add-one t) (simp (ne_eqb _ _ n))

  -- b is the thread's group, as the code read it
  module _ (t : ℕ) {b : ℕ} (own : b ≡ group_of groups t) {ms : List ℕ} (e : ms ≡ masks (member_mask t groups)) where
    pub members_low : b < 16 → get_or ms b 0 < 2 ^ t
    members_low h = rw (own, e, mask_at (member_mask t groups) (group_of groups t) (omega arith)) (bits_lt _ t)

    pub members_in : b < 16 → {x : ℕ} → x ≡ 2 ^ t → set ms b (get_or ms b 0 + x) ≡ masks (member_mask (t + 1) groups)
    members_in h p =
        let g = group_of groups t in
        (λ j. set (e j) (own j) (get_or (e j) (own j) 0 + p j))
        ∙ ap (λ (y : ℕ). set (masks (member_mask t groups)) g (y + 2 ^ t)) (mask_at (member_mask t groups) g (omega arith))
        ∙ ap (set (masks (member_mask t groups)) g) (mask_in t)
        ∙ masks_set (member_mask t groups) (member_mask (t + 1) groups) g (omega arith) (λ k n. mask_out t k (λ z. n (sym z)))

    pub members_out : 16 ≤ b → ms ≡ masks (member_mask (t + 1) groups)
    members_out h = e ∙ masks_same (member_mask t groups) (member_mask (t + 1) groups) (λ k l. mask_out t k (λ z. omega arith))
