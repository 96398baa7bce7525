-- Two buffers that agree word by word get the same records: the dwords and the bytes of a lent buffer. Assumes nothing.
use mathlib.Core.Path.{◌≡◌, refl, ap, ◌∙◌}
use Prim.Native.Nat.{ℕ, zero, suc, ◌+◌}
use mathlib.Core.List.{List, [], ◌∷◌}
use lib.ListN.{get_or, set}
use Rattle.words.specs.Dwords.{Buffer, put_in}
use Rattle.command.specs.Order.{Command}
use Rattle.record.specs.Record.{record_of}
use Rattle.records.specs.Records.{slot, put_words, written}

module _ {B C : Type 0} (put : B → ℕ → ℕ → B) (put' : C → ℕ → ℕ → C) (f : B → C) (h : (r : B) (k v : ℕ) → f (put r k v) ≡ put' (f r) k v) where
  words_map : (r : B) (i : ℕ) (ws : List ℕ) (n : ℕ) → f (put_words put r i ws n) ≡ put_words put' (f r) i ws n
  unfolding put_words
  words_map r i ws zero = refl
  words_map r i ws (suc n) = h (put_words put r i ws n) (slot i n) (get_or ws n 0) ∙ ap (λ (x : C). put' x (slot i n) (get_or ws n 0)) (words_map r i ws n)

  written_map : (cs : List Command) (i : ℕ) (r : B) → f (written put cs i r) ≡ written put' cs i (f r)
  unfolding written
  written_map [] i r = refl
  written_map (c ∷ cs) i r = written_map cs (i + 1) (put_words put r i (record_of c) 16) ∙ ap (written put' cs (i + 1)) (words_map r i (record_of c) 16)

-- the dwords of a lent buffer, and what its slice holds
module _ {E : Type 0} (stored : List E → ℕ → ℕ → List E) where
  pub written_view : (cs : List Command) (i : ℕ) (r : Buffer E) → (written (put_in stored) cs i r).view ≡ written set cs i r.view
  written_view = written_map (put_in stored) set (λ (r : Buffer E). r.view) (λ r k v. refl)

  pub written_items : (cs : List Command) (i : ℕ) (r : Buffer E) → (written (put_in stored) cs i r).items ≡ written stored cs i r.items
  written_items = written_map (put_in stored) stored (λ (r : Buffer E). r.items) (λ r k v. refl)

  -- the words of one record, in the dwords of a lent buffer
  pub words_view : (r : Buffer E) (i : ℕ) (ws : List ℕ) (n : ℕ) → (put_words (put_in stored) r i ws n).view ≡ put_words set r.view i ws n
  words_view = words_map (put_in stored) set (λ (r : Buffer E). r.view) (λ r k v. refl)
