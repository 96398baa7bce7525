-- A search for the first number that passes a test. Of the test `post` says what a call gave: that at r it gave b is `post r b`.
use Rattle.std.specs.Prelude.{◌≡◌, ℕ, ◌<◌, ◌≤◌, max, Bool, true, false}

-- a test that gives what f says
abbrev pub Tells : (ℕ → Bool) → ℕ → Bool → Type 0
Tells f r b = b ≡ f r

-- every number from a up to b failed
abbrev pub AllFail : (ℕ → Bool → Type 0) → ℕ → ℕ → Type 0
AllFail post a b = (i : ℕ) → a ≤ i → i < b → post i false

-- one of the numbers from a up to b passed
pub record OnePasses (post : ℕ → Bool → Type 0) (a b : ℕ) : Type 0 where
  pub at : ℕ
  pub after : a ≤ at
  pub before : at < b
  pub passed : post at true

-- r is one from a to b, and every one from a up to it failed
pub record Passed (post : ℕ → Bool → Type 0) (a b r : ℕ) : Type 0 where
  pub after : a ≤ r
  pub within : r ≤ b
  pub none : AllFail post a r

-- r is the first from a up to b that passed; else b, or a where that is past it
pub record First (post : ℕ → Bool → Type 0) (a b r : ℕ) : Type 0 where
  pub passed : Passed post a (max a b) r
  pub found : r < b → post r true
