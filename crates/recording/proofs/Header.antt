-- What the loops that read the header show. Assumes nothing.
use mathlib.Core.Path.{◌≡◌, refl, sym, ap, ap₂, ◌∙◌}
use mathlib.Core.Bool.{true, false}
use mathlib.Core.List.{List, ◌++◌}
use Prim.Native.Nat.{ℕ, suc, ◌+◌, ◌-◌, ◌≤◌, ◌<◌}
use native.Mathlib.Numerals.{add-one}
use native.Mathlib.Omega.{arith}
use lib.ListN.{length, get_or, set, take, replicate}
use lib.Seq.{set_at, take-suc, append_snoc, length-take-le}
use borrow.Author.Tests.{lt-ltb, le-ltb, eq-eqb, ne_eqb}
use Rattle.event.specs.declared.Setup.{Setup}
use Rattle.recording.specs.Recording.{threads_of, bypass_of, group_byte, stray_group, groups_of, setup_of}

-- one more entry of a list that is padded to n entries
pub pad_turn : (l : List ℕ) (n v t : ℕ) → t < n → t < length l
    → set (take t l ++ replicate (n - t) v) t (get_or l t 0) ≡ take (t + 1) l ++ replicate (n - (t + 1)) v
pad_turn l n v t h k =
    let e : n - t ≡ suc (n - (t + 1)) = omega arith in
    ap (λ (m : ℕ). set (take t l ++ replicate m v) t (get_or l t 0)) e
    ∙ set_at (take t l) v (replicate (n - (t + 1)) v) (get_or l t 0) t (length-take-le t l (omega arith))
    ∙ sym (append_snoc (take t l) (get_or l t 0) (replicate (n - (t + 1)) v))
    ∙ ap₂ (λ (p q : List ℕ). p ++ q) (sym (take-suc l t 0 k) ∙ ap (λ (m : ℕ). take m l) (sym (add-one t))) refl

-- a group byte that is neither a barrier's number nor 255, and one that is
module _ (rec : List ℕ) (t : ℕ) where
  pub stray : 15 < group_byte rec t → (group_byte rec t ≡ 255 → ⊥) → stray_group rec t ≡ true
  stray h n = simp (lt-ltb _ _ h, ne_eqb _ _ n)

  pub none_stray : 15 < group_byte rec t → group_byte rec t ≡ 255 → stray_group rec t ≡ false
  none_stray h e = simp (lt-ltb _ _ h, eq-eqb _ _ e)

  pub low_stray : group_byte rec t ≤ 15 → stray_group rec t ≡ false
  low_stray h = simp (le-ltb _ _ h)

pub setup_made : (rec : List ℕ) {threads : ℕ} {groups : List ℕ} → threads ≡ threads_of rec → groups ≡ groups_of rec
    → ◌≡◌ {A = Setup} (record { threads = threads; bypass = bypass_of rec; groups = groups }) (setup_of rec)
unfolding setup_of
setup_made rec t g = λ j. record { threads = t j; bypass = bypass_of rec; groups = g j }
