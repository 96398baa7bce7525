-- Several dwords at once, as the code takes them (proofs/Runs.antt shows each equal to its dwords one by one), and what it asks for.
use Rattle.std.specs.Prelude.{ℕ, ◌+◌, ◌-◌, ◌≤◌, cond, List, [], ◌∷◌, get_or, set, ltb}
use Rattle.command.specs.declared.State.{State}

-- the own dwords h, of which a command has `most`, after several dwords more, where g of the command have come before them
unfoldable pub gathered_in : ℕ → List ℕ → ℕ → List ℕ → List ℕ
gathered_in most h g [] = h
gathered_in most h g (d ∷ ds) = gathered_in most (cond (ltb g most) (set h g d) h) (g + 1) ds

-- Own dword j after them, where it was x before: `made_gathered` of proofs/Gathers.antt shows that these are the own dwords above.
unfoldable pub picked : ℕ → ℕ → ℕ → ℕ → List ℕ → ℕ
picked x j most g l = cond (ltb j most) (cond (ltb j g) x (get_or l (j - g) x)) x

-- how many dwords lead to the last of a command of t dwords, of which g have come: one at least
abbrev pub dwords_left : ℕ → ℕ → ℕ
dwords_left t g = cond (ltb g t) (t - g) 1

-- room in the counts for one command more, which stands at a place
pub record Counts (st : State) (at : ℕ) : Type 0 where
  pub limit : at ≤ 16384
  pub commands : st.commands ≤ at
  pub objects : st.objects ≤ at
