-- The acknowledgement: when it is written, where, and what it leaves. Assumes nothing.
use mathlib.Core.Path.{◌≡◌, refl, ◌∙◌}
use mathlib.Core.Bool.{Bool, true, false, ◌||◌}
use mathlib.Core.List.{List, [], ◌∷◌}
use Prim.Native.Nat.{ℕ, ◌+◌, ◌*◌, ◌/◌, ◌%◌, ◌^◌, ◌≤◌, ◌<◌}
use native.Mathlib.Omega.{arith}
use lib.ListN.{length, get_or, set, length-set}
use lib.Seq.{get_or-set_other}
use lib.Dec.{eqb}
use borrow.Author.Tests.{eqb-false, not-true}
use Rattle.laws.proofs.Choices.{by_cond, and_left, and_right, none_of, or_false}
use Rattle.event.specs.declared.Head.{Head}
use Rattle.event.specs.declared.Setup.{Setup}
use Rattle.event.specs.declared.Gateway.{Gateway}
use Rattle.event.specs.Outcomes.{counted_ack, malformed, decision_of, outcome_of}
use Rattle.event.proofs.Formed.{formed_sender, formed_register}
use Rattle.event.proofs.Reach.{formed_of}
use Rattle.effects.specs.Effects.{acknowledged, ack_place, four_bytes, with_ack}

-- an acknowledged event is not malformed, so that its register is one of the sender's
pub ack_place_lem : (h : Head) (threads o n : ℕ) → n ≡ 4096 * threads → ((o ≡ 31 → ⊥) → malformed h.kind h threads ≡ false)
    → acknowledged h o ≡ true → ack_place h + 4 ≤ n
ack_place_lem h threads o n e formed a =
    let k = and_left (counted_ack h.kind h) _ a in
    let u : eqb o 31 || eqb o 32 ≡ false = not-true _ (and_right (counted_ack h.kind h) _ a) in
    let f = formed (eqb-false o 31 (none_of (eqb o 31 ∷ eqb o 32 ∷ []) 0 (simp or_false u))) in
    omega (arith, formed_sender h.kind h threads f, formed_register h.kind h threads f k)

pub ack_room : (h : Head) (s : Setup) (g : Gateway) (waits : List Bool) (o n : ℕ) → n ≡ 4096 * s.threads → o ≡ outcome_of (decision_of h s g waits)
    → acknowledged h o ≡ true → ack_place h + 4 ≤ n
ack_room h s g waits o n e d a = ack_place_lem h s.threads o n e (λ m. formed_of h s g waits (λ z. m (d ∙ z))) a

-- what does not count is not acknowledged
pub no_ack : (h : Head) (o : ℕ) (rs : List ℕ) → counted_ack h.kind h ≡ false → rs ≡ with_ack h o rs
unfolding with_ack
no_ack h o rs a = simp a

-- it writes its own four bytes alone
four_elsewhere : (rs : List ℕ) (q v p : ℕ) → (q ≤ p → p < q + 4 → ⊥) → get_or (four_bytes rs q v) p 0 ≡ get_or rs p 0
four_elsewhere rs q v p n =
    let one = set rs q (v % 2 ^ 8) in
    let two = set one (q + 1) (v / 2 ^ 8 % 2 ^ 8) in
    let three = set two (q + 2) (v / 2 ^ 16 % 2 ^ 8) in
    get_or-set_other three (q + 3) p (v / 2 ^ 24 % 2 ^ 8) 0 (λ e. n (omega arith) (omega arith))
    ∙ get_or-set_other two (q + 2) p (v / 2 ^ 16 % 2 ^ 8) 0 (λ e. n (omega arith) (omega arith))
    ∙ get_or-set_other one (q + 1) p (v / 2 ^ 8 % 2 ^ 8) 0 (λ e. n (omega arith) (omega arith))
    ∙ get_or-set_other rs q p (v % 2 ^ 8) 0 (λ e. n (omega arith) (omega arith))

pub ack_elsewhere : (h : Head) (o : ℕ) (rs : List ℕ) (p : ℕ) → (ack_place h ≤ p → p < ack_place h + 4 → ⊥) → get_or (with_ack h o rs) p 0 ≡ get_or rs p 0
unfolding with_ack
ack_elsewhere h o rs p n =
    by_cond (λ (l : List ℕ). get_or l p 0 ≡ get_or rs p 0) (acknowledged h o) _ _ (λ _. four_elsewhere rs (ack_place h) o p n) (λ _. refl)

pub ack_long : (h : Head) (o : ℕ) (rs : List ℕ) → length (with_ack h o rs) ≡ length rs
unfolding with_ack
ack_long h o rs = by_cond (λ (l : List ℕ). length l ≡ length rs) (acknowledged h o) _ _ (λ _. simp length-set) (λ _. refl)
