-- How many dwords a slice of bytes holds: what the trait of a lent slice's elements asks to be shown.
use Rattle.std.specs.Prelude.{◌≡◌, ℕ, ◌/◌, List, [], ◌∷◌, length, refl}
use Rattle.std.proofs.Common.{arith}
use Rattle.words.specs.Dwords.{dwords_of}

pub length_dwords : (l : List ℕ) → length (dwords_of l) ≡ length l / 4
unfolding dwords_of
length_dwords (a ∷ b ∷ c ∷ d ∷ l) = let e = length_dwords l in omega arith
length_dwords (a ∷ b ∷ c ∷ []) = refl
length_dwords (a ∷ b ∷ []) = refl
length_dwords (a ∷ []) = refl
length_dwords [] = refl

pub same_length : (l l' : List ℕ) → length l ≡ length l' → length (dwords_of l) ≡ length (dwords_of l')
same_length l l' e = let a = length_dwords l in let b = length_dwords l' in omega arith
