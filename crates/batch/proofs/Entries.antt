-- What the entries show, by what `decide` answered. Assumes nothing.
use mathlib.Core.Path.{◌≡◌, refl, sym, ap, ◌∙◌}
use mathlib.Core.Bool.{Bool, true, false, cond}
use Prim.Native.Nat.{ℕ, ◌/◌, ◌%◌}
use native.Mathlib.Omega.{arith}
use mathlib.Core.List.{List}
use lib.ListN.{length, set}
use borrow.Author.Tests.{eq-eqb, ne_eqb}
use Rattle.chips.specs.declared.Chip.{Chip}
use Rattle.std.specs.Prelude.{Result, Ok, Err}
use Rattle.std.specs.Result.{is_ok}
use Rattle.chips.specs.declared.Refusal.{Refusal}
use Rattle.chips.specs.Refusals.{number_of_refusal}
use Rattle.chips.specs.declared.Target.{Target}
use Rattle.chips.specs.Chips.{target_of, named_by}
use Rattle.chips.proofs.Chips.{chip_unknown, chip_known}
use Rattle.words.specs.Dwords.{dwords_of, put_le, Buffer, lent_buffer, put_in}
use Rattle.words.specs.Lengths.{length_dwords}
use Rattle.reading.specs.declared.Extent.{Extent}
use Rattle.reading.specs.declared.Refused.{Refused}
use Rattle.reading.specs.Reading.{reading_of}
use Rattle.reading.specs.Decision.{Scanned, Stopped, Ended, found, decided, decision_of}
use Rattle.reading.proofs.Decisions.{by_refusal, by_success, fits_limit, fits_whole, fits_records}
use Rattle.records.specs.Records.{Fits, recorded}
use Rattle.records.proofs.Buffers.{written_items}
use Rattle.batch.specs.declared.Answer.{Answer}
use Rattle.batch.specs.Answers.{refused_answer, accepted_answer, answer_by, recorded_in, answer_for, records_for, bytes_answer_for, bytes_records_for}
use Rattle.batch.specs.Answers.{answer_of, records_of, bytes_answer_of, bytes_records_of}

differ : false ≡ true → ⊥
differ e = let z : ◌≡◌ {A = ℕ} 0 1 = ap (λ (t : Bool). cond t 1 0) e in omega arith

-- The answer and the record buffer, by what the decision found, for slices of E.
abbrev Done : {E : Type 0} → (List E → ℕ → ℕ → List E) → (List E → List ℕ) → Target → List ℕ → List E → Answer → List E → Type 0
Done stored dwords target b r a r' =
    (a ≡ decided refused_answer accepted_answer target (length (dwords r)) b) × (r' ≡ recorded_in stored target (length (dwords r)) b r)

-- w is what was found
module _ {E : Type 0} (stored : List E → ℕ → ℕ → List E) (dwords : List E → List ℕ) (target : Target) (b : List ℕ) (r : List E) (w : Scanned)
    (ew : w ≡ decision_of target (length (dwords r)) b) where
  module _ (a : Answer) (r' : List E) (ea : a ≡ answer_by w) where
    pub done_refused : (m p : ℕ) → w ≡ Stopped m p → r' ≡ r → Done stored dwords target b r a r'
    unfolding recorded_in
    done_refused m p e er = (
      by_refusal refused_answer accepted_answer target (length (dwords r)) b w ew m p a e (ea ∙ ap answer_by e),
      er ∙ by_refusal (λ m p. r) (λ c d. recorded stored target b r) target (length (dwords r)) b w ew m p r e refl,
    )

    pub done_accepted : (c d o : ℕ) → w ≡ Ended c d o
        → lent_buffer dwords r' ≡ recorded (put_in stored) target b (lent_buffer dwords r) → Done stored dwords target b r a r'
    unfolding recorded_in
    done_accepted c d o e er =
        let v = ap (λ (x : Buffer E). x.items) er ∙ written_items stored (reading_of target b).passed 0 (lent_buffer dwords r) in (
          by_success refused_answer accepted_answer target (length (dwords r)) b w ew c d o a e (ea ∙ ap answer_by e),
          by_success (λ m p. r) (λ c d. recorded stored target b r) target (length (dwords r)) b w ew c d o r' e v,
        )

-- the same, by how the code tells whether a batch was accepted: x is what `decide` answered
module _ {E : Type 0} (stored : List E → ℕ → ℕ → List E) (dwords : List E → List ℕ) (target : Target) (b : List ℕ) (r : List E) where
  pub accepted_fits : (x : Result Extent Refused) → found x ≡ decision_of target (length (dwords r)) b → is_ok x ≡ true → Fits target b (length (dwords r))
  accepted_fits (Err f) ew t = absurd (differ t)
  accepted_fits (Ok e) ew t =
      let w = found (Ok e) in
      let n = length (dwords r) in (
        fits_limit target n b w e.commands e.dwords e.objects ew refl,
        fits_whole target n b w e.commands e.dwords e.objects ew refl,
        fits_records target n b w e.commands e.dwords e.objects ew refl,
      )

  module _ (a : Answer) (r' : List E) where
    pub refused_done : (x : Result Extent Refused) → found x ≡ decision_of target (length (dwords r)) b → is_ok x ≡ false → a ≡ answer_by (found x)
        → r' ≡ r → Done stored dwords target b r a r'
    refused_done (Err f) ew t ea er = done_refused stored dwords target b r (found (Err f)) ew a r' ea (number_of_refusal f.refusal) f.place refl er
    refused_done (Ok e) ew t ea er = absurd (differ (sym t))

    pub accepted_done : (x : Result Extent Refused) → found x ≡ decision_of target (length (dwords r)) b → is_ok x ≡ true → a ≡ answer_by (found x)
        → lent_buffer dwords r' ≡ recorded (put_in stored) target b (lent_buffer dwords r) → Done stored dwords target b r a r'
    accepted_done (Err f) ew t ea er = absurd (differ t)
    accepted_done (Ok e) ew t ea er =
        done_accepted stored dwords target b r (found (Ok e)) ew a r' ea e.commands e.dwords e.objects refl er

-- the byte entry, where no byte is left over
module _ (target : Target) (b r : List ℕ) (q : length b % 4 ≡ 0) where
  room_is : length (dwords_of r) ≡ length r / 4
  room_is = length_dwords r

  pub even_answer : (a : Answer) → a ≡ decided refused_answer accepted_answer target (length (dwords_of r)) (dwords_of b) → a ≡ bytes_answer_for target b r
  unfolding bytes_answer_for
  even_answer a e =
      simp (eq-eqb (length b % 4) 0 q) (e ∙ ap (λ (n : ℕ). decided refused_answer accepted_answer target n (dwords_of b)) room_is)

  pub even_records : (r' : List ℕ) → r' ≡ recorded_in put_le target (length (dwords_of r)) (dwords_of b) r → r' ≡ bytes_records_for target b r
  unfolding bytes_records_for
  even_records r' e = simp (eq-eqb (length b % 4) 0 q) (e ∙ ap (λ (n : ℕ). recorded_in put_le target n (dwords_of b) r) room_is)

module _ (target : Target) (b r : List ℕ) (q : length b % 4 ≡ 0 → ⊥) where
  pub odd_answer : (a : Answer) → a ≡ refused_answer 17 (length b / 4) → a ≡ bytes_answer_for target b r
  unfolding bytes_answer_for
  odd_answer a e = simp (ne_eqb (length b % 4) 0 q) e

  pub odd_records : r ≡ bytes_records_for target b r
  unfolding bytes_records_for
  odd_records = simp (ne_eqb (length b % 4) 0 q)

-- what an entry shows, by what its chip number names: v is that
module _ (chip capacity : ℕ) (b r : List ℕ) (v : Result Chip Refusal) (e : v ≡ named_by chip) where
  pub unknown_answer : (x : Refusal) (a : Answer) → v ≡ Err x → a ≡ refused_answer 18 0 → a ≡ answer_of chip capacity b r
  unfolding answer_of
  unknown_answer x a u q = chip_unknown refused_answer (λ c. answer_for (target_of c capacity) b r) chip v e a x u q

  pub unknown_records : (x : Refusal) → v ≡ Err x → r ≡ records_of chip capacity b r
  unfolding records_of
  unknown_records x u = chip_unknown (λ m p. r) (λ c. records_for (target_of c capacity) b r) chip v e r x u refl

  pub known_answer : (a : Answer) (c : Chip) → v ≡ Ok c → a ≡ answer_for (target_of c capacity) b r → a ≡ answer_of chip capacity b r
  unfolding answer_of
  known_answer a c k q = chip_known refused_answer (λ c. answer_for (target_of c capacity) b r) chip v e a c k q

  pub known_records : (r' : List ℕ) (c : Chip) → v ≡ Ok c → r' ≡ records_for (target_of c capacity) b r → r' ≡ records_of chip capacity b r
  unfolding records_of
  known_records r' c k q = chip_known (λ m p. r) (λ c. records_for (target_of c capacity) b r) chip v e r' c k q

-- the dword entry
module _ (chip capacity : ℕ) (b r : List ℕ) (v : Result Chip Refusal) (e : v ≡ named_by chip) where
  pub dwords_answer : (a : Answer) (c : Chip) → v ≡ Ok c → a ≡ decided refused_answer accepted_answer (target_of c capacity) (length r) b
      → a ≡ answer_of chip capacity b r
  unfolding answer_for
  dwords_answer a c k q = known_answer chip capacity b r v e a c k q

  pub dwords_records : (r' : List ℕ) (c : Chip) → v ≡ Ok c → r' ≡ recorded_in set (target_of c capacity) (length r) b r → r' ≡ records_of chip capacity b r
  unfolding records_for
  dwords_records r' c k q = known_records chip capacity b r v e r' c k q

module _ (chip capacity : ℕ) (b r : List ℕ) (v : Result Chip Refusal) (e : v ≡ named_by chip) where
  pub bytes_unknown_answer : (x : Refusal) (a : Answer) → v ≡ Err x → a ≡ refused_answer 18 0 → a ≡ bytes_answer_of chip capacity b r
  unfolding bytes_answer_of
  bytes_unknown_answer x a u q = chip_unknown refused_answer (λ c. bytes_answer_for (target_of c capacity) b r) chip v e a x u q

  pub bytes_unknown_records : (x : Refusal) → v ≡ Err x → r ≡ bytes_records_of chip capacity b r
  unfolding bytes_records_of
  bytes_unknown_records x u = chip_unknown (λ m p. r) (λ c. bytes_records_for (target_of c capacity) b r) chip v e r x u refl

  pub bytes_known_answer : (a : Answer) (c : Chip) → v ≡ Ok c → a ≡ bytes_answer_for (target_of c capacity) b r → a ≡ bytes_answer_of chip capacity b r
  unfolding bytes_answer_of
  bytes_known_answer a c k q = chip_known refused_answer (λ c. bytes_answer_for (target_of c capacity) b r) chip v e a c k q

  pub bytes_known_records : (r' : List ℕ) (c : Chip) → v ≡ Ok c → r' ≡ bytes_records_for (target_of c capacity) b r → r' ≡ bytes_records_of chip capacity b r
  unfolding bytes_records_of
  bytes_known_records r' c k q = chip_known (λ m p. r) (λ c. bytes_records_for (target_of c capacity) b r) chip v e r' c k q
