-- What is written is the text of the input. Assumes nothing.
use mathlib.Core.Path.{◌≡◌, refl, sym, ap, subst₂, ◌∙◌}
use mathlib.Core.Bool.{Bool, cond}
use mathlib.Core.List.{List, [], ◌++◌}
use Prim.Native.Nat.{ℕ, ◌+◌, ◌*◌, ◌%◌, ◌≤◌, ◌<◌}
use native.Mathlib.Omega.{arith}
use lib.ListN.{length, set, take, drop, length-append}
use lib.Seq.{length-take-le}
use borrow.Author.Tests.{lt-ltb, le-ltb, eq-eqb, ne_eqb}
use Rattle.listing.specs.Prefix.{IsPrefixLen}
use Rattle.chips.specs.declared.Chip.{Chip}
use Rattle.chips.specs.Chips.{target_of}
use Rattle.words.specs.Dwords.{dwords_of, Buffer, lent_buffer, put_in}
use Rattle.words.specs.Lengths.{length_dwords}
use Rattle.command.specs.Order.{Command}
use Rattle.reading.specs.Reading.{Stop, ended, stopped, reading_of}
use Rattle.records.specs.Records.{written, recorded}
use Rattle.records.proofs.Buffers.{written_items}
use Rattle.reading.specs.Decision.{Scanned, Stopped, Ended, at_stop, decided, decision_of}
use Rattle.reading.proofs.EndToEnd.{kinds_known}
use Rattle.reading.proofs.Counts.{passed_count}
use Rattle.reading.proofs.Decisions.{by_refusal, by_success, fits_commands}
use Rattle.text.specs.Lines.{accepted_line, refused_line, mark_line}
use Rattle.listing.specs.Listing.{lines_of, read_text, batch_text, odd_text, text_of}
use Rattle.text.specs.declared.Page.{Page}
use Rattle.text.specs.Writing.{Wrote}
use Rattle.listing.specs.RecordLines.{KindsNamed, record_lines}
use Rattle.text.proofs.Pieces.{then, known_as}
use Rattle.listing.proofs.Recorded.{records_named, recorded_lines}

-- with room for 1,024 records 10 does not occur
stop_text : (cs : List Command) (s : Stop) → length cs ≤ 1024 → at_stop refused_line (λ c d. lines_of cs ++ accepted_line c d) 16384 (length cs) s ≡ read_text cs s
stop_text cs (stopped m p) h = refl
stop_text cs (ended d) h = simp (le-ltb 16384 (16 * length cs) (omega arith))

-- w is what the batch check decided
module _ (chip : Chip) (input : List ℕ) (h : length input ≤ 4096) (w : Scanned) (decides : w ≡ decision_of (target_of chip 2048) 16384 (dwords_of input)) where
  abbrev cs : List Command
  cs = (reading_of (target_of chip 2048) (dwords_of input)).passed

  few_dwords : length (dwords_of input) ≤ 1024
  few_dwords = let l = length_dwords input in omega arith

  few : length cs ≤ 1024
  few = let p = passed_count (target_of chip 2048) (dwords_of input) in let q = few_dwords in omega arith

  decided_text : decided refused_line (λ c d. lines_of cs ++ accepted_line c d) (target_of chip 2048) 16384 (dwords_of input) ≡ batch_text chip (dwords_of input)
  unfolding decided batch_text
  decided_text =
      ap (λ (t : Bool). cond t (refused_line 1 0) (at_stop refused_line (λ c d. lines_of cs ++ accepted_line c d) 16384 (length cs) (reading_of (target_of chip 2048) (dwords_of input)).stop))
      (le-ltb 16384 (length (dwords_of input)) (let q = few_dwords in omega arith))
      ∙ stop_text cs (reading_of (target_of chip 2048) (dwords_of input)).stop few

  pub refused_written : (m p : ℕ) (page page' : Page) → w ≡ Stopped m p → Wrote page (refused_line m p) page' → Wrote page (batch_text chip (dwords_of input)) page'
  refused_written m p page page' e =
      known_as (by_refusal refused_line (λ c d. lines_of cs ++ accepted_line c d) (target_of chip 2048) 16384 (dwords_of input) w decides m p (refused_line m p) e refl ∙ decided_text)

  module _ (c d o : ℕ) (e : w ≡ Ended c d o) where
    count : length cs ≡ c
    count = fits_commands (target_of chip 2048) 16384 (dwords_of input) w c d o decides e

    pub records_room : 16 * length cs ≤ 16384
    records_room = let q = few in omega arith

    pub few_commands : c ≤ 1024
    few_commands = let p = count in let q = few in omega arith

    -- records is the record buffer at entry of the second pass, and records' at its exit
    module _ (records : List ℕ) (z : length records ≡ 16384) where
      module _ (records' : List ℕ)
          (f : lent_buffer (λ l. l) records' ≡ recorded (put_in set) (target_of chip 2048) (dwords_of input) (lent_buffer (λ l. l) records)) where
        filled : records' ≡ written set cs 0 records
        filled = ap (λ (x : Buffer ℕ). x.items) f ∙ written_items set cs 0 (lent_buffer (λ l. l) records)

        pub kinds_named : KindsNamed records' c
        kinds_named =
            let n = records_named cs records (let q = few in omega arith) (kinds_known (target_of chip 2048) (dwords_of input)) in
            subst₂ KindsNamed (sym filled) count n

        lines_are : record_lines records' c ≡ lines_of cs
        lines_are =
            ap (λ (r : List ℕ). record_lines r c) filled ∙ ap (record_lines (written set cs 0 records)) (sym count)
            ∙ recorded_lines cs records (let q = few in omega arith)

        pub accepted_written : (page mid page' : Page) → page.at ≤ length page.text.now → Wrote page (record_lines records' c) mid → Wrote mid (accepted_line c d) page'
            → Wrote page (batch_text chip (dwords_of input)) page'
        accepted_written page mid page' a u v =
            known_as (by_success refused_line (λ c d. lines_of cs ++ accepted_line c d) (target_of chip 2048) 16384 (dwords_of input) w decides c d o (lines_of cs ++ accepted_line c d) e refl ∙ decided_text)
            (then a (known_as lines_are u) v)

-- the mark, then the rest
module _ (chip : Chip) (input : List ℕ) where
  pub text_long : 4096 < length input → mark_line ++ refused_line 1 0 ≡ text_of chip input
  unfolding text_of
  text_long h = simp (lt-ltb 4096 (length input) h)

  module _ (h : length input ≤ 4096) where
    pub text_odd : (length input % 4 ≡ 0 → ⊥) → mark_line ++ odd_text input ≡ text_of chip input
    unfolding text_of
    text_odd q = simp (le-ltb 4096 (length input) h, ne_eqb (length input % 4) 0 q)

    pub text_even : length input % 4 ≡ 0 → mark_line ++ batch_text chip (dwords_of input) ≡ text_of chip input
    unfolding text_of
    text_even q = simp (le-ltb 4096 (length input) h, eq-eqb (length input % 4) 0 q)

-- a text from the start of the buffer on
pub whole_text : (t : List ℕ) (page page' : Page) → page.at ≡ 0 → Wrote page t page'
    → (page'.text.now ≡ t ++ drop (length t) page.text.now) × (page'.at ≡ length t) × IsPrefixLen page'.at page'.text.now
whole_text t page page' s w =
    let z : page.at + length t ≡ length t = omega arith in
    let n : page'.text.now ≡ t ++ drop (length t) page.text.now = w.bytes ∙ ap (λ (k : ℕ). take k page.text.now ++ t ++ drop (k + length t) page.text.now) s ∙ ap (λ (k : ℕ). t ++ drop k page.text.now) (let q : 0 + length t ≡ length t = omega arith in q) in
    let c : page'.at ≡ length t = w.next ∙ z in
    let l : length page'.text.now ≡ length t + length (drop (length t) page.text.now) = ap length n ∙ length-append t (drop (length t) page.text.now) in
    let h : page'.at ≤ length page'.text.now = omega arith in
    (n, c, (h, sym (length-take-le page'.at page'.text.now h)))
