-- No-ops, several at a time. Assumes nothing.
use mathlib.Core.Path.{◌≡◌, refl, sym, ap, ap₂, ◌∙◌}
use mathlib.Core.Bool.{Bool, true}
use Prim.Native.Nat.{ℕ, zero, suc, ◌+◌, ◌-◌, ◌<◌, ◌≤◌}
use native.Mathlib.Omega.{arith}
use mathlib.Core.List.{List}
use lib.ListN.{length, get_or, drop}
use lib.Bits.{bit_or}
use lib.Dec.{eqb}
use borrow.Author.Tests.{eq-eqb, eqb-true}
use Rattle.chips.specs.declared.Chip.{Chip}
use Rattle.command.specs.declared.State.{State}
use Rattle.command.specs.Kinds.{length_allowed, kind_of, total_of, head_of}
use Rattle.command.specs.Order.{state_after}
use Rattle.judge.specs.Refusals.{header_verdict}
use Rattle.judge.proofs.Vouching.{no_op_vouches, or_left, or_right}
use Rattle.reading.specs.declared.Place.{Place}
use Rattle.reading.specs.Turns.{scan_from, Header, stands_at, Same, NoOps}
use Rattle.reading.proofs.Steps.{stands_as, again_scan}

-- a no-op is one dword, which rows 3 and 4 let pass
pub no_op_total : 1 ≡ total_of 0 0
unfolding total_of
no_op_total = refl

pub no_op_header : (c : Chip) → Header c 0 0
unfolding kind_of header_verdict length_allowed total_of
no_op_header c = record { kind = refl; goes = λ e. omega arith; allowed = refl }

-- a state that counts so many commands
abbrev with_commands : State → ℕ → State
with_commands s n =
    record {
      chip = s.chip;
      capacity = s.capacity;
      earlier_vfe = s.earlier_vfe;
      vfe_in_force = s.vfe_in_force;
      vfe_dword1 = s.vfe_dword1;
      vfe_dword2 = s.vfe_dword2;
      vfe_dword3 = s.vfe_dword3;
      vfe_dword4 = s.vfe_dword4;
      count_loaded = s.count_loaded;
      standing = s.standing;
      commands = n;
      objects = s.objects;
    }

-- no-ops are counted, and set nothing else
abbrev pub counted : ℕ → State → State
counted n s = with_commands s (s.commands + n)

-- one
module _ (b : List ℕ) (at : ℕ) (s : State) (p : at < length b) (e : get_or b at 0 ≡ 0) where
  stands : stands_at b at 1 0 ≡ true
  stands = sym (stands_as b (length b) at 1 0 (get_or b at 0) refl (omega arith) refl) ∙ eq-eqb (get_or b at 0) 0 e

  after_one : counted 1 s ≡ state_after 0 (head_of 0 (drop at b)) s
  unfolding state_after
  after_one = refl

  one_scan : scan_from b (at + 1) (counted 1 s) ≡ scan_from b at s
  one_scan =
      again_scan b (length b) 0 0 at 1 s.chip true refl (no_op_header s.chip) no_op_total (sym stands) refl (omega arith) (head_of 0 (drop at b)) true s
      (counted 1 s) refl (no_op_vouches 0 (head_of 0 (drop at b)) s refl) refl after_one refl (scan_from b at s) refl

-- LAW: several
pub no_ops_scan : (n : ℕ) (b : List ℕ) (at : ℕ) (s : State) → NoOps b at n → scan_from b (at + n) (counted n s) ≡ scan_from b at s
no_ops_scan zero b at s z =
    let x : at + 0 ≡ at = omega arith in
    let y : s.commands + 0 ≡ s.commands = omega arith in
    ap₂ (λ (i j : ℕ). scan_from b i (with_commands s j)) x y
no_ops_scan (suc n) b at s z =
    let q = z.inside in
    let x : at + suc n ≡ at + n + 1 = omega arith in
    let y : s.commands + suc n ≡ s.commands + n + 1 = omega arith in
    ap₂ (λ (i j : ℕ). scan_from b i (with_commands s j)) x y
    ∙ one_scan b (at + n) (counted n s) (omega arith) (z.each n (omega arith))
    ∙ no_ops_scan n b at s (record { inside = omega arith; each = λ j w. z.each j (omega arith) })

-- four, by one test
pub four_there : (b : List ℕ) (at L w₀ w₁ w₂ w₃ : ℕ) (t : Bool) → L ≡ length b → 4 ≤ L - at → w₀ ≡ get_or b at 0 → w₁ ≡ get_or b (at + 1) 0 → w₂ ≡ get_or b (at + 2) 0
    → w₃ ≡ get_or b (at + 3) 0 → t ≡ eqb (bit_or (bit_or (bit_or w₀ w₁) w₂) w₃) 0 → t ≡ true → NoOps b at 4
four_there b at L w₀ w₁ w₂ w₃ t el q e₀ e₁ e₂ e₃ et e = record { inside = omega arith; each = each }
  where
    none : bit_or (bit_or (bit_or w₀ w₁) w₂) w₃ ≡ 0
    none = eqb-true (bit_or (bit_or (bit_or w₀ w₁) w₂) w₃) 0 (sym et ∙ e)

    each : (j : ℕ) → j < 4 → get_or b (at + j) 0 ≡ 0
    each zero p =
        let z = none in let a = or_left (bit_or (bit_or w₀ w₁) w₂) w₃ in let c = or_left (bit_or w₀ w₁) w₂ in let d = or_left w₀ w₁ in
        ap (λ (i : ℕ). get_or b i 0) (let y : at + 0 ≡ at = omega arith in y) ∙ sym e₀ ∙ (let y : w₀ ≡ 0 = omega arith in y)
    each (suc zero) p =
        let z = none in let a = or_left (bit_or (bit_or w₀ w₁) w₂) w₃ in let c = or_left (bit_or w₀ w₁) w₂ in let d = or_right w₀ w₁ in
        sym e₁ ∙ (let y : w₁ ≡ 0 = omega arith in y)
    each (suc (suc zero)) p =
        let z = none in let a = or_left (bit_or (bit_or w₀ w₁) w₂) w₃ in let c = or_right (bit_or w₀ w₁) w₂ in
        sym e₂ ∙ (let y : w₂ ≡ 0 = omega arith in y)
    each (suc (suc (suc zero))) p =
        let z = none in let a = or_right (bit_or (bit_or w₀ w₁) w₂) w₃ in sym e₃ ∙ (let y : w₃ ≡ 0 = omega arith in y)
    each (suc (suc (suc (suc j)))) p = absurd (omega arith)

-- from where several lead, the same is found
pub same_from : (b : List ℕ) (from : ℕ) (st : State) (at : ℕ) (s : State) (r : Place) → from ≤ at → scan_from b at s ≡ scan_from b from st → Same b at s r
    → Same b from st r
same_from b from st at s r q e o = let z = o.1 in (o.0 ∙ e, omega arith, o.2)
