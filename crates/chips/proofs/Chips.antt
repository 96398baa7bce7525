-- What is given back for a number, by the chip that it names. Assumes nothing.
use mathlib.Core.Path.{◌≡◌, refl, sym, ap, ◌∙◌}
use mathlib.Core.Bool.{cond}
use Prim.Native.Nat.{ℕ}
use native.Mathlib.Omega.{arith}
use lib.Dec.{eqb}
use borrow.Author.Tests.{eqb-true, eqb-false, ne_eqb}
use Rattle.laws.proofs.Choices.{by_cond}
use Rattle.chips.specs.declared.Chip.{Chip}
use Rattle.chips.specs.declared.Chip.TheVariants.{Gen6, Gen7}
use Rattle.std.specs.Prelude.{Result, Ok, Err}
use Rattle.chips.specs.declared.Refusal.{Refusal}
use Rattle.chips.specs.declared.Refusal.TheVariants.{UnknownChip}
use Rattle.chips.specs.Chips.{number_of, named_by, by_named, on_chip, Unnamed, ForChip, ByChip, of_none, of_chip}

unnamed : (n : ℕ) → (n ≡ 6 → ⊥) → (n ≡ 7 → ⊥) → Unnamed n
unnamed n x y Gen6 = x
unnamed n x y Gen7 = y

-- no two chips have one number
pub same_number : (c c' : Chip) → number_of c ≡ number_of c' → c ≡ c'
same_number Gen6 Gen6 e = refl
same_number Gen6 Gen7 e = absurd (omega arith)
same_number Gen7 Gen6 e = absurd (omega arith)
same_number Gen7 Gen7 e = refl

-- a number that is neither chip's names none
pub names_none : (n : ℕ) → (n ≡ 6 → ⊥) → (n ≡ 7 → ⊥) → Err UnknownChip ≡ named_by n
unfolding named_by
names_none n x y = simp (ne_eqb n 6 x, ne_eqb n 7 y)

-- LAW: what holds of no chip and of each chip, where the number names it, holds of what it names
pub by_named_lem : (P : Result Chip Refusal → Type 0) (n : ℕ) → (Unnamed n → P (Err UnknownChip)) → ((c : Chip) → n ≡ number_of c → P (Ok c)) → P (named_by n)
unfolding named_by
by_named_lem P n none known =
    by_cond P (eqb n 6) (Ok Gen6) (cond (eqb n 7) (Ok Gen7) (Err UnknownChip)) (λ t. known Gen6 (eqb-true n 6 t))
    (λ f. by_cond P (eqb n 7) (Ok Gen7) (Err UnknownChip) (λ t. known Gen7 (eqb-true n 7 t)) (λ g. none (unnamed n (eqb-false n 6 f) (eqb-false n 7 g))))

-- LAW: what holds of 18, and of what is given back for the chip named, holds of what is given back
pub by_chip : {A : Type 0} (P : A → Type 0) (refused : ℕ → ℕ → A) (given : Chip → A) (n : ℕ) → (Unnamed n → P (refused 18 0))
    → ForChip n (λ c. P (given c)) → P (on_chip refused given n)
by_chip P refused given n none known = by_named_lem (λ v. P (by_named (refused 18 0) given v)) n none known

-- LAW: what is given back alike for the chip named is given back alike
pub same_chip : {A : Type 0} (refused : ℕ → ℕ → A) (given given' : Chip → A) (n : ℕ) → ForChip n (λ c. given c ≡ given' c)
    → on_chip refused given n ≡ on_chip refused given' n
same_chip refused given given' n same =
    by_named_lem (λ v. by_named (refused 18 0) given v ≡ by_named (refused 18 0) given' v) n (λ u. refl) same

-- what is given back for a chip's number, and for any other
pub on_named : {A : Type 0} (refused : ℕ → ℕ → A) (given : Chip → A) (n : ℕ) (c : Chip) → n ≡ number_of c → on_chip refused given n ≡ given c
unfolding named_by
on_named refused given n Gen6 e = ap (on_chip refused given) e
on_named refused given n Gen7 e = ap (on_chip refused given) e

pub on_none : {A : Type 0} (refused : ℕ → ℕ → A) (given : Chip → A) (n : ℕ) → Unnamed n → on_chip refused given n ≡ refused 18 0
on_none refused given n u = ap (by_named (refused 18 0) given) (sym (names_none n (u Gen6) (u Gen7)))

-- LAW: every number names a chip or none
pub by_either : (n : ℕ) (Q : Type 0) (P : Chip → Type 0) → (Unnamed n → Q) → ForChip n P → ByChip n Q P
by_either n Q P none known = by_named_lem (λ v. ByChip n Q P) n (λ u. of_none u (none u)) (λ c e. of_chip c e (known c e))

-- what an entry shows, by what its number names
module _ {A : Type 0} (refused : ℕ → ℕ → A) (given : Chip → A) (n : ℕ) (v : Result Chip Refusal) (e : v ≡ named_by n) where
  pub chip_unknown : (a : A) (r : Refusal) → v ≡ Err r → a ≡ refused 18 0 → a ≡ on_chip refused given n
  chip_unknown a r u q = q ∙ ap (by_named (refused 18 0) given) (sym u ∙ e)

  pub chip_known : (a : A) (c : Chip) → v ≡ Ok c → a ≡ given c → a ≡ on_chip refused given n
  chip_known a c k q = q ∙ ap (by_named (refused 18 0) given) (sym k ∙ e)

pub ruleset chip_names = (names_none)
