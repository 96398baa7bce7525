-- A record by its command's kind. Assumes nothing.
use mathlib.Core.Path.{◌≡◌, sym, ap, ◌∙◌}
use Prim.Native.Nat.{ℕ}
use mathlib.Core.List.{List}
use Rattle.command.specs.Order.{Command}
use Rattle.record.specs.Record.{record_of}

module _ (at total : ℕ) (h : List ℕ) (vfe object : ℕ) where
  abbrev of_kind : ℕ → Command
  of_kind k = record { kind = k; place = at; total = total; head = h; vfe = vfe; object = object }

  pub as_kind : (k n : ℕ) (r : List ℕ) → k ≡ n → r ≡ record_of (of_kind n) → r ≡ record_of (of_kind k)
  as_kind k n r p e = e ∙ ap (λ (x : ℕ). record_of (of_kind x)) (sym p)
