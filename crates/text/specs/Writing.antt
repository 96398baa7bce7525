-- What the writers owe one another.
use Rattle.std.specs.Prelude.{ℕ, ◌+◌, ◌≤◌, ◌≡◌, List, ◌++◌, length, take, drop}
use Rattle.text.specs.declared.Page.{Page}

-- n more bytes fit
abbrev pub HasRoom : Page → ℕ → Type 0
HasRoom p n = p.at + n ≤ length p.text.now

-- a buffer with a piece from an index on
abbrev pub over : List ℕ → ℕ → List ℕ → List ℕ
over old from piece = take from old ++ piece ++ drop (from + length piece) old

-- q is p with the piece written: it stands where the next piece was to go, every other byte is as it was, and the next goes after it
pub record Wrote (p : Page) (piece : List ℕ) (q : Page) : Type 0 where
  pub bytes : q.text.now ≡ over p.text.now p.at piece
  pub next : q.at ≡ p.at + length piece
  pub long : length q.text.now ≡ length p.text.now
  pub same : q.text.ghost_name ≡ p.text.ghost_name
