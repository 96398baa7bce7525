-- Demand 3, the listing: two inputs that differ only in inline data of objects passed make the same bytes. Assumes nothing.
use mathlib.Core.Path.{◌≡◌, ap}
use mathlib.Core.List.{List, ◌++◌}
use Prim.Native.Nat.{ℕ}
use lib.ListN.{length, drop}
use Rattle.chips.specs.declared.Chip.{Chip}
use Rattle.chips.specs.Chips.{target_of}
use Rattle.words.specs.Dwords.{dwords_of}
use Rattle.reading.specs.Reading.{Reading}
use Rattle.reading.specs.Isolation.{BytesAlike}
use Rattle.reading.proofs.Isolation.{alike_reading, bytes_alike}
use Rattle.listing.specs.Listing.{read_text, batch_text, text_of, listed_in}

module _ (chip : Chip) (b b' : List ℕ) (h : BytesAlike (target_of chip 2048) b b') where
  alike_batch : batch_text chip (dwords_of b) ≡ batch_text chip (dwords_of b')
  unfolding batch_text
  alike_batch = ap (λ (r : Reading). read_text r.passed r.stop) (alike_reading (target_of chip 2048) (dwords_of b) (dwords_of b') (bytes_alike (target_of chip 2048) b b' h))

  -- LAW: one text
  pub alike_text : text_of chip b ≡ text_of chip b'
  unfolding text_of
  alike_text = simp (h.size, alike_batch)

  -- LAW: one text buffer at exit
  pub alike_buffer : (text : List ℕ) → listed_in chip b text ≡ listed_in chip b' text
  alike_buffer text = ap (λ (t : List ℕ). t ++ drop (length t) text) alike_text
