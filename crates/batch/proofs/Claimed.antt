-- What is claimed of every batch check holds. Assumes nothing.
use mathlib.Core.Path.{◌≡◌, refl, sym, ap, subst, subst₂, ◌∙◌}
use mathlib.Core.Bool.{cond}
use mathlib.Core.Logic.{inl, inr}
use mathlib.Core.List.{List, [], ◌++◌}
use Prim.Native.Nat.{ℕ, ◌*◌, ◌/◌, ◌%◌, ◌^◌, ◌<◌, ◌≤◌}
use native.Mathlib.Omega.{arith}
use lib.Dec.{eqb}
use lib.ListN.{length, get_or, set, take}
use borrow.Author.Tests.{lt-ltb, le-ltb, eq-eqb, ne_eqb, eqb-true, eqb-false}
use Rattle.laws.proofs.Choices.{two_cond}
use Rattle.chips.specs.declared.Chip.{Chip}
use Rattle.chips.specs.declared.Target.{Target}
use Rattle.chips.specs.Chips.{number_of, target_of, by_named, Unnamed, ForChip, of_none, of_chip}
use Rattle.chips.proofs.Chips.{same_number, by_named_lem, same_chip}
use Rattle.words.specs.Dwords.{le_at, dwords_of, put_le}
use Rattle.words.specs.Lengths.{length_dwords}
use Rattle.command.specs.Order.{Command}
use Rattle.record.specs.Record.{record_of}
use Rattle.reading.specs.Reading.{Stop, ended, stopped, Reading, reading_of}
use Rattle.reading.specs.EndToEnd.{EndToEnd}
use Rattle.reading.specs.Vfes.{no_command, command_number}
use Rattle.reading.specs.Decision.{decided}
use Rattle.reading.proofs.Decided.{by_decided, whole_same}
use Rattle.reading.proofs.Decisions.{map_decided}
use Rattle.reading.proofs.EndToEnd.{reading_laid, laid_reading}
use Rattle.reading.proofs.Same.{same_decision}
use Rattle.reading.proofs.Isolation.{dwords_count}
use Rattle.reading.proofs.AfterEnd as unread
use Rattle.records.specs.Records.{slot, written, recorded}
use Rattle.records.proofs.Slots.{word_at_lem, word_past, written_length, byte_word_at, byte_past, bytes_written_length}
use Rattle.batch.specs.declared.Answer.{Answer}
use Rattle.batch.specs.Answers.{refused_answer, accepted_answer, recorded_in, answer_for, records_for, bytes_answer_for, bytes_records_for, answer_of, records_of, bytes_answer_of, bytes_records_of}
use Rattle.batch.specs.Claims.{DueFor, odd, long, faulty, full, success, Due, Numbers, Claims, BytesClaims, AllClaimed}

-- No two answers are due.
module _ (t : Target) (b : List ℕ) (over room : ℕ) where
  abbrev one : Answer
  one = cond (eqb over 0) (decided refused_answer accepted_answer t room b) (refused_answer 17 (length b))

  due_is : {a : Answer} → DueFor t b over room a → a ≡ one
  unfolding decided
  due_is (odd n) = simp (ne_eqb over 0 n)
  due_is (long o l) = simp (eq-eqb over 0 o, lt-ltb 16384 (length b) l)
  due_is (faulty {cs} {m} {p} o l laid g h) = simp (eq-eqb over 0 o, le-ltb 16384 (length b) l, laid_reading t b cs (stopped m p) laid)
  due_is (full {cs} {d} o l laid n) =
      simp (eq-eqb over 0 o, le-ltb 16384 (length b) l, laid_reading t b cs (ended d) laid, lt-ltb room (16 * length cs) n)
  due_is (success {cs} {d} o l laid n) =
      simp (eq-eqb over 0 o, le-ltb 16384 (length b) l, laid_reading t b cs (ended d) laid, le-ltb room (16 * length cs) n)

  one_due : {a : Answer} → DueFor t b over room a → (other : Answer) → DueFor t b over room other → other ≡ a
  one_due x other y = due_is y ∙ sym (due_is x)

-- The answer and the record buffer at exit, by one decision.
module _ (P : Answer → List ℕ → Type 0) (t : Target) (room : ℕ) (b : List ℕ) (over : ℕ) (o : over ≡ 0) (r filled : List ℕ)
    (off : (m p : ℕ) → 0 < m → m ≤ 10 → DueFor t b over room (refused_answer m p) → P (refused_answer m p) r)
    (on : (d : ℕ) → DueFor t b over room (accepted_answer (length (reading_of t b).passed) d) → 16 * length (reading_of t b).passed ≤ room
    → P (accepted_answer (length (reading_of t b).passed) d) filled) where
  laid_at : (s : Stop) → (reading_of t b).stop ≡ s → EndToEnd t b [] 0 (reading_of t b).passed s
  laid_at s e = subst (EndToEnd t b [] 0 (reading_of t b).passed) e (reading_laid t b)

  abbrev Both : Answer × List ℕ → Type 0
  Both x = P x.0 x.1

  both : Both (decided (λ m p. (refused_answer m p, r)) (λ c d. (accepted_answer c d, filled)) t room b)
  both =
      by_decided Both (λ m p. (refused_answer m p, r)) (λ c d. (accepted_answer c d, filled)) t room b
      (λ l. off 1 0 (omega arith) (omega arith) (long o l))
      (λ m p l s g h. off m p (omega arith) (omega arith) (faulty o l (laid_at (stopped m p) s) g h))
      (λ d l s n. off 10 d (omega arith) (omega arith) (full o l (laid_at (ended d) s) n))
      (λ d l s n. on d (success o l (laid_at (ended d) s) n) n)

  pub by_both : P (decided refused_answer accepted_answer t room b) (decided (λ m p. r) (λ c d. filled) t room b)
  by_both =
      subst₂ P
      (map_decided (λ (x : Answer × List ℕ). x.0) (λ m p. (refused_answer m p, r)) (λ c d. (accepted_answer c d, filled)) t room b)
      (map_decided (λ (x : Answer × List ℕ). x.1) (λ m p. (refused_answer m p, r)) (λ c d. (accepted_answer c d, filled)) t room b)
      both

refused_numbers : (m p : ℕ) → 0 < m → m ≤ 10 → Numbers (refused_answer m p)
refused_numbers m p h l = record { number = inl l; refused = λ _. (refl, refl); accepted = λ e. absurd (omega arith) }

accepted_numbers : (c d : ℕ) → Numbers (accepted_answer c d)
accepted_numbers c d = record { number = inl (omega arith); refused = λ h. absurd (omega arith); accepted = λ _. refl }

-- the commands laid end to end are those passed
passed_as : (t : Target) (b : List ℕ) (cs : List Command) (d : ℕ) → EndToEnd t b [] 0 cs (ended d) → (reading_of t b).passed ≡ cs
passed_as t b cs d laid = ap (λ (x : Reading). x.passed) (laid_reading t b cs (ended d) laid)

-- and none is due but to the chip named
module _ (chip capacity : ℕ) (b : List ℕ) (over room : ℕ) where
  only_unknown : Unnamed chip → (other : Answer) → Due chip capacity b over room other → other ≡ refused_answer 18 0
  only_unknown u other (of_none n z) = z
  only_unknown u other (of_chip c e d) = absurd (u c e)

  only_named : (c : Chip) → chip ≡ number_of c → {a : Answer} → DueFor (target_of c capacity) b over room a → (other : Answer)
      → Due chip capacity b over room other → other ≡ a
  only_named c e x other (of_none n z) = absurd (n c e)
  only_named c e x other (of_chip c' e' y) =
      one_due (target_of c capacity) b over room x other
      (subst (λ (k : Chip). DueFor (target_of k capacity) b over room other) (same_number c' c (sym e' ∙ e)) y)

unknown_numbers : Numbers (refused_answer 18 0)
unknown_numbers = record { number = inr (inr refl); refused = λ _. (refl, refl); accepted = λ e. absurd (omega arith) }

-- the dword entry
module _ (chip capacity : ℕ) (b r : List ℕ) where
  module _ (c : Chip) (e : chip ≡ number_of c) where
    abbrev t : Target
    t = target_of c capacity

    abbrev passed : List Command
    passed = (reading_of t b).passed

    off : (m p : ℕ) → 0 < m → m ≤ 10 → DueFor t b 0 (length r) (refused_answer m p) → Claims chip capacity b r (refused_answer m p) r
    off m p h l due =
        record {
          due = of_chip c e due;
          only = only_named chip capacity b 0 (length r) c e due;
          numbers = refused_numbers m p h l;
          refused = λ _. refl;
          record_at = λ z. absurd (omega arith);
          past = λ k p. refl;
          size = refl;
        }

    at_word : (cs : List Command) → passed ≡ cs → 16 * length passed ≤ length r → (i f : ℕ) → i < length cs → f < 16
        → get_or (recorded set t b r) (slot i f) 0 ≡ get_or (record_of (command_number cs i)) f 0
    at_word cs p n i f =
        subst (λ (xs : List Command). i < length xs → f < 16 → get_or (recorded set t b r) (slot i f) 0 ≡ get_or (record_of (command_number xs i)) f 0) p
        (word_at_lem passed r i f no_command n)

    on : (d : ℕ) → DueFor t b 0 (length r) (accepted_answer (length passed) d) → 16 * length passed ≤ length r
        → Claims chip capacity b r (accepted_answer (length passed) d) (recorded set t b r)
    on d due n =
        record {
          due = of_chip c e due;
          only = only_named chip capacity b 0 (length r) c e due;
          numbers = accepted_numbers (length passed) d;
          refused = λ h. absurd (omega arith);
          record_at = λ _ c' e' cs d laid. at_word cs (passed_as t b cs d (subst (λ (k : Chip). EndToEnd (target_of k capacity) b [] 0 cs (ended d)) (same_number c' c (sym e' ∙ e)) laid)) n;
          past = λ k p. word_past passed r k p;
          size = written_length passed 0 r;
        }

    claimed_for : Claims chip capacity b r (answer_for t b r) (records_for t b r)
    unfolding answer_for records_for recorded_in
    claimed_for = by_both (Claims chip capacity b r) t (length r) b 0 refl r (recorded set t b r) off on

  unclaimed : Unnamed chip → Claims chip capacity b r (refused_answer 18 0) r
  unclaimed u =
      record {
        due = of_none u refl;
        only = only_unknown chip capacity b 0 (length r) u;
        numbers = unknown_numbers;
        refused = λ _. refl;
        record_at = λ z. absurd (omega arith);
        past = λ k p. refl;
        size = refl;
      }

  claimed : Claims chip capacity b r (answer_of chip capacity b r) (records_of chip capacity b r)
  unfolding answer_of records_of
  claimed =
      by_named_lem (λ v. Claims chip capacity b r (by_named (refused_answer 18 0) (λ c. answer_for (target_of c capacity) b r) v) (by_named r (λ c. records_for (target_of c capacity) b r) v))
      chip unclaimed claimed_for

-- the byte entry
module _ (chip capacity : ℕ) (b r : List ℕ) where
  module _ (c : Chip) (e : chip ≡ number_of c) where
    abbrev tb : Target
    tb = target_of c capacity

    abbrev commands : List Command
    commands = (reading_of tb (dwords_of b)).passed

    abbrev DueHere : Answer → Type 0
    DueHere = DueFor tb (dwords_of b) (length b % 4) (length r / 4)

    bytes_off : (m p : ℕ) → 0 < m → Numbers (refused_answer m p) → DueHere (refused_answer m p) → BytesClaims chip capacity b r (refused_answer m p) r
    bytes_off m p h numbers due =
        record {
          due = of_chip c e due;
          only = only_named chip capacity (dwords_of b) (length b % 4) (length r / 4) c e due;
          numbers = numbers;
          refused = λ _. refl;
          record_at = λ z. absurd (omega arith);
          past = λ k p. refl;
          size = refl;
        }

    at_bytes : (cs : List Command) → commands ≡ cs → 16 * length commands ≤ length r / 4 → (i f : ℕ) → i < length cs → f < 16
        → le_at (recorded put_le tb (dwords_of b) r) (4 * slot i f) ≡ get_or (record_of (command_number cs i)) f 0 % 2 ^ 32
    at_bytes cs p n i f =
        subst (λ (xs : List Command). i < length xs → f < 16 → le_at (recorded put_le tb (dwords_of b) r) (4 * slot i f) ≡ get_or (record_of (command_number xs i)) f 0 % 2 ^ 32) p
        (byte_word_at commands r i f no_command n)

    bytes_on : (d : ℕ) → DueHere (accepted_answer (length commands) d) → 16 * length commands ≤ length r / 4
        → BytesClaims chip capacity b r (accepted_answer (length commands) d) (recorded put_le tb (dwords_of b) r)
    bytes_on d due n =
        record {
          due = of_chip c e due;
          only = only_named chip capacity (dwords_of b) (length b % 4) (length r / 4) c e due;
          numbers = accepted_numbers (length commands) d;
          refused = λ h. absurd (omega arith);
          record_at = λ _ c' e' cs d laid. at_bytes cs (passed_as tb (dwords_of b) cs d (subst (λ (k : Chip). EndToEnd (target_of k capacity) (dwords_of b) [] 0 cs (ended d)) (same_number c' c (sym e' ∙ e)) laid)) n;
          past = λ k p. byte_past commands r k p;
          size = bytes_written_length commands 0 r;
        }

    odd_numbers : (p : ℕ) → Numbers (refused_answer 17 p)
    odd_numbers p = record { number = inr (inl refl); refused = λ _. (refl, refl); accepted = λ e. absurd (omega arith) }

    bytes_claimed_for : BytesClaims chip capacity b r (bytes_answer_for tb b r) (bytes_records_for tb b r)
    unfolding bytes_answer_for bytes_records_for recorded_in
    bytes_claimed_for =
        two_cond (BytesClaims chip capacity b r) (eqb (length b % 4) 0) _ (refused_answer 17 (length b / 4)) _ r
        (λ t. by_both (BytesClaims chip capacity b r) tb (length r / 4) (dwords_of b) (length b % 4) (eqb-true (length b % 4) 0 t) r (recorded put_le tb (dwords_of b) r)
        (λ m p h l. bytes_off m p h (refused_numbers m p h l)) bytes_on)
        (λ t. bytes_off 17 (length b / 4) (omega arith) (odd_numbers (length b / 4))
        (subst (λ (n : ℕ). DueHere (refused_answer 17 n)) (length_dwords b) (odd (eqb-false (length b % 4) 0 t))))

  bytes_unclaimed : Unnamed chip → BytesClaims chip capacity b r (refused_answer 18 0) r
  bytes_unclaimed u =
      record {
        due = of_none u refl;
        only = only_unknown chip capacity (dwords_of b) (length b % 4) (length r / 4) u;
        numbers = unknown_numbers;
        refused = λ _. refl;
        record_at = λ z. absurd (omega arith);
        past = λ k p. refl;
        size = refl;
      }

  bytes_claimed : BytesClaims chip capacity b r (bytes_answer_of chip capacity b r) (bytes_records_of chip capacity b r)
  unfolding bytes_answer_of bytes_records_of
  bytes_claimed =
      by_named_lem (λ v. BytesClaims chip capacity b r (by_named (refused_answer 18 0) (λ c. bytes_answer_for (target_of c capacity) b r) v) (by_named r (λ c. bytes_records_for (target_of c capacity) b r) v))
      chip bytes_unclaimed bytes_claimed_for

-- one reading for the chip named, so one decision
module _ (b r b' : List ℕ) (e : length b' ≡ length b) where
  for_answers : (t : Target) → reading_of t b' ≡ reading_of t b → (answer_for t b' r ≡ answer_for t b r) × (records_for t b' r ≡ records_for t b r)
  unfolding answer_for records_for recorded_in
  for_answers t q = (
    same_decision refused_answer (λ x. accepted_answer) t (length r) b' b e q,
    same_decision (λ m p. r) (λ x c d. written set x.passed 0 r) t (length r) b' b e q,
  )

  for_bytes : (t : Target) → reading_of t (dwords_of b') ≡ reading_of t (dwords_of b)
      → (bytes_answer_for t b' r ≡ bytes_answer_for t b r) × (bytes_records_for t b' r ≡ bytes_records_for t b r)
  unfolding bytes_answer_for bytes_records_for recorded_in
  for_bytes t q =
      let n = dwords_count b' b e in (
        whole_same refused_answer b' b _ _ e (same_decision refused_answer (λ x. accepted_answer) t (length r / 4) (dwords_of b') (dwords_of b) n q),
        whole_same (λ m p. r) b' b _ _ e (same_decision (λ m p. r) (λ x c d. written put_le x.passed 0 r) t (length r / 4) (dwords_of b') (dwords_of b) n q),
      )

-- two batches with one reading for the chip named: where none is named, any two
module _ (chip capacity : ℕ) (b r b' : List ℕ) where
  pub same_answers : ForChip chip (λ c. (length b' ≡ length b) × (reading_of (target_of c capacity) b' ≡ reading_of (target_of c capacity) b))
      → (answer_of chip capacity b' r ≡ answer_of chip capacity b r) × (records_of chip capacity b' r ≡ records_of chip capacity b r)
  unfolding answer_of records_of
  same_answers q = (
    same_chip refused_answer (λ c. answer_for (target_of c capacity) b' r) (λ c. answer_for (target_of c capacity) b r) chip
        (λ c n. (for_answers b r b' (q c n).0 (target_of c capacity) (q c n).1).0),
    same_chip (λ m p. r) (λ c. records_for (target_of c capacity) b' r) (λ c. records_for (target_of c capacity) b r) chip
        (λ c n. (for_answers b r b' (q c n).0 (target_of c capacity) (q c n).1).1),
  )

  pub same_bytes : ForChip chip (λ c. (length b' ≡ length b) × (reading_of (target_of c capacity) (dwords_of b') ≡ reading_of (target_of c capacity) (dwords_of b)))
      → (bytes_answer_of chip capacity b' r ≡ bytes_answer_of chip capacity b r) × (bytes_records_of chip capacity b' r ≡ bytes_records_of chip capacity b r)
  unfolding bytes_answer_of bytes_records_of
  same_bytes q = (
    same_chip refused_answer (λ c. bytes_answer_for (target_of c capacity) b' r) (λ c. bytes_answer_for (target_of c capacity) b r) chip
        (λ c n. (for_bytes b r b' (q c n).0 (target_of c capacity) (q c n).1).0),
    same_chip (λ m p. r) (λ c. bytes_records_for (target_of c capacity) b' r) (λ c. bytes_records_for (target_of c capacity) b r) chip
        (λ c n. (for_bytes b r b' (q c n).0 (target_of c capacity) (q c n).1).1),
  )

-- THEOREM
pub all_claimed : AllClaimed
all_claimed =
    record {
      dwords = claimed;
      bytes = bytes_claimed;
      after_end = λ chip capacity b r cs d laid others e. same_answers chip capacity b r (take d b ++ others) (λ c n. (e, sym (unread.after_end_lem (target_of c capacity) b cs d (laid c n) others (sym e))));
      bytes_after_end = λ chip capacity b r cs d laid others e. same_bytes chip capacity b r (take (4 * d) b ++ others) (λ c n. (e, sym (unread.bytes_after_end_lem (target_of c capacity) b cs d (laid c n) others (sym e))));
    }
