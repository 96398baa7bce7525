-- The lines out of the records are the lines of the commands. Assumes nothing.
use mathlib.Core.Path.{◌≡◌, refl, sym, ap, subst, ◌∙◌}
use mathlib.Core.List.{List, [], ◌∷◌, ◌++◌, append_assoc, append-nil}
use Prim.Native.Nat.{ℕ, zero, suc, ◌+◌, ◌-◌, ◌*◌, ◌≤◌, ◌<◌}
use native.Mathlib.Numerals.{add-one}
use native.Mathlib.Omega.{arith}
use lib.ListN.{length, get_or, set, take, drop, length-append, length-drop, get_or-append}
use lib.Seq.{take-length, length-take-le, drop-drop, get_or-drop}
use Rattle.std.proofs.lemmas.List.{drop_at, get_or-take}
use Rattle.command.specs.Order.{Command}
use Rattle.record.specs.Record.{record_of}
use Rattle.records.specs.Records.{slot, written}
use Rattle.reading.specs.Vfes.{no_command, command_number}
use Rattle.records.proofs.Slots.{word_at_lem}
use Rattle.text.specs.Lines.{line_of}
use Rattle.listing.specs.Listing.{lines_of}
use Rattle.text.specs.declared.Page.{Page}
use Rattle.text.specs.Writing.{Wrote}
use Rattle.listing.specs.RecordLines.{KindsNamed, record_lines}
use Rattle.text.proofs.Pieces.{then}

-- The turns of the loop over the records: record k is x, then t is left.
module _ (records : List ℕ) (n k : ℕ) (h : 16 * n ≤ length records) (x t : List ℕ) (e : x ++ t ≡ drop (16 * k) (take (16 * n) records)) (l : length x ≡ 16) where
  pub chunk_within : k < n
  chunk_within =
      let u : length (x ++ t) ≡ 16 + length t = simp (length-append, l) in
      let v : length (x ++ t) ≡ 16 * n - 16 * k = ap length e ∙ length-drop (16 * k) (take (16 * n) records) ∙ ap (λ (i : ℕ). i - 16 * k) (length-take-le (16 * n) records h) in
      omega arith

  pub chunk_rest : t ≡ drop (16 * (k + 1)) (take (16 * n) records)
  chunk_rest =
      let m : 16 * k + 16 ≡ 16 * (k + 1) = omega arith in
      sym (drop_at x t 16 l) ∙ ap (drop 16) e ∙ drop-drop 16 (16 * k) (take (16 * n) records) ∙ ap (λ (i : ℕ). drop i (take (16 * n) records)) m

  chunk_word : (f : ℕ) → f < 16 → get_or x f 0 ≡ get_or records (slot k f) 0
  chunk_word f p =
      let q : f < length x = omega arith in
      let b = chunk_within in
      let r : 16 * k + f < 16 * n = omega arith in
      sym (get_or-append x t 0 f q) ∙ ap (λ (s : List ℕ). get_or s f 0) e ∙ get_or-drop (16 * k) (take (16 * n) records) f 0
      ∙ get_or-take (16 * n) records (16 * k + f) 0 r

  pub chunk_named : KindsNamed records n → get_or x 0 0 < 9
  chunk_named known = subst (λ (i : ℕ). i < 9) (sym (chunk_word 0 (omega arith))) (known k chunk_within)

  pub lines_again : (p q r : Page) → p.at ≤ length p.text.now → Wrote p (record_lines records k) q
      → Wrote q (line_of (get_or x 1 0) (get_or x 0 0) (get_or x 2 0)) r → Wrote p (record_lines records (k + 1)) r
  unfolding record_lines
  lines_again p q r b u v =
      rw (add-one k) (then b u (rw (chunk_word 1 (omega arith)) at (rw (chunk_word 0 (omega arith)) at (rw (chunk_word 2 (omega arith)) at v))))

-- one command more
lines_snoc : (cs : List Command) (i : ℕ) → i < length cs →
    lines_of (take (suc i) cs) ≡ lines_of (take i cs) ++ line_of (get_or cs i no_command).place (get_or cs i no_command).kind (get_or cs i no_command).total
unfolding lines_of
lines_snoc [] i h = absurd (omega arith)
lines_snoc (c ∷ cs) zero h = append-nil (line_of c.place c.kind c.total)
lines_snoc (c ∷ cs) (suc i) h =
    let l : List ℕ = line_of c.place c.kind c.total in
    let x : Command = get_or cs i no_command in
    ap (λ (t : List ℕ). l ++ t) (lines_snoc cs i (omega arith)) ∙ sym (append_assoc l (lines_of (take i cs)) (line_of x.place x.kind x.total))

-- the words of a record that a line shows
module _ (c : Command) where
  kind_word : get_or (record_of c) 0 0 ≡ c.kind
  unfolding record_of
  kind_word = refl

  place_word : get_or (record_of c) 1 0 ≡ c.place
  unfolding record_of
  place_word = refl

  total_word : get_or (record_of c) 2 0 ≡ c.total
  unfolding record_of
  total_word = refl

module _ (cs : List Command) (r : List ℕ) (h : 16 * length cs ≤ length r) where
  abbrev records : List ℕ
  records = written set cs 0 r

  first_lines : (i : ℕ) → i ≤ length cs → record_lines records i ≡ lines_of (take i cs)
  unfolding record_lines lines_of
  first_lines zero l = refl
  first_lines (suc i) l =
      let x : Command = get_or cs i no_command in
      let k = word_at_lem cs r i 0 no_command h (omega arith) (omega arith) ∙ kind_word x in
      let p = word_at_lem cs r i 1 no_command h (omega arith) (omega arith) ∙ place_word x in
      let t = word_at_lem cs r i 2 no_command h (omega arith) (omega arith) ∙ total_word x in
      ap (λ (l : List ℕ). l ++ line_of (get_or records (slot i 1) 0) (get_or records (slot i 0) 0) (get_or records (slot i 2) 0)) (first_lines i (omega arith))
      ∙ ap (λ (a : ℕ). lines_of (take i cs) ++ line_of a (get_or records (slot i 0) 0) (get_or records (slot i 2) 0)) p
      ∙ ap (λ (a : ℕ). lines_of (take i cs) ++ line_of x.place a (get_or records (slot i 2) 0)) k
      ∙ ap (λ (a : ℕ). lines_of (take i cs) ++ line_of x.place x.kind a) t
      ∙ sym (lines_snoc cs i (omega arith))

  pub records_named : ((i : ℕ) → i < length cs → (command_number cs i).kind < 9) → KindsNamed records (length cs)
  records_named known i l =
      let k = word_at_lem cs r i 0 no_command h l (omega arith) ∙ kind_word (command_number cs i) in
      subst (λ (x : ℕ). x < 9) (sym k) (known i l)

  pub recorded_lines : record_lines records (length cs) ≡ lines_of cs
  recorded_lines = first_lines (length cs) (omega arith) ∙ ap lines_of (take-length cs)
