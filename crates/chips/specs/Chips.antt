-- The chip that a batch is for: document 02, One, "The caller names the chip, 6 or 7."
use Rattle.std.specs.Prelude.{ℕ, ◌≡◌, cond, eqb, Result, Ok, Err}
use Rattle.chips.specs.declared.Chip.{Chip}
use Rattle.chips.specs.declared.Chip.TheVariants.{Gen6, Gen7}
use Rattle.chips.specs.declared.Refusal.{Refusal}
use Rattle.chips.specs.declared.Refusal.TheVariants.{UnknownChip}
use Rattle.chips.specs.declared.Target.{Target}

-- the number by which a caller names it
abbrev pub number_of : Chip → ℕ
number_of Gen6 = 6
number_of Gen7 = 7

-- the chip that a number names
unfoldable pub named_by : ℕ → Result Chip Refusal
named_by n = cond (eqb n (number_of Gen6)) (Ok Gen6) (cond (eqb n (number_of Gen7)) (Ok Gen7) (Err UnknownChip))

-- what is given back by what is named
abbrev pub by_named : {A : Type 0} → A → (Chip → A) → Result Chip Refusal → A
by_named unknown known (Err r) = unknown
by_named unknown known (Ok c) = known c

-- 18: "chip neither 6 nor 7, checked before all others"; "A new refusal .. changes nothing lent and has place 0". What the refusal means,
-- and what is given back for the chip named, are the arguments.
abbrev pub on_chip : {A : Type 0} → (ℕ → ℕ → A) → (Chip → A) → ℕ → A
on_chip refused given n = by_named (refused 18 0) given (named_by n)

-- what a batch is judged for: the chip, and the capacity lent, in rows
abbrev pub target_of : Chip → ℕ → Target
target_of c capacity = record { chip = c; capacity = capacity }

-- a number that names no chip
abbrev pub Unnamed : ℕ → Type 0
Unnamed n = (c : Chip) → n ≡ number_of c → ⊥

-- Of the chip that a number names something is so: of none, where it names no chip.
abbrev pub ForChip : ℕ → (Chip → Type 0) → Type 0
ForChip n P = (c : Chip) → n ≡ number_of c → P c

-- A number names no chip, and the one is so; or it names a chip, and the other is so of that. There is no third.
pub data ByChip (n : ℕ) (Q : Type 0) (P : Chip → Type 0) : Type 0 where
  of_none : Unnamed n → Q → ByChip n Q P
  of_chip : (c : Chip) → n ≡ number_of c → P c → ByChip n Q P
