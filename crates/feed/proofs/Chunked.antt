-- The claims of the chunked check, for every chip's number. Assumes nothing.
use mathlib.Core.Path.{◌≡◌, refl, sym, ap, ap₂, subst, ◌∙◌}
use mathlib.Core.Logic.{◌⊎◌, inl, inr}
use mathlib.Core.Bool.{Bool, true, false, cond, ◌&&◌, ◌||◌}
use Prim.Native.Nat.{ℕ, ◌+◌, ◌-◌, ◌*◌, ◌≤◌}
use native.Mathlib.Omega.{arith}
use mathlib.Core.List.{List, [], ◌∷◌, ◌++◌, append_assoc, append-nil}
use lib.ListN.{length, get_or, take, drop, take-append-drop}
use lib.Seq.{take-append_seam, drop-append_seam}
use lib.Dec.{ltb, leb, eqb}
use borrow.Author.Tests.{le-leb, leb-true, ltb-false, eq-eqb, ne_eqb, eqb-false}
use Rattle.laws.proofs.Choices.{by_test, and_left}
use Rattle.chips.specs.declared.Chip.{Chip}
use Rattle.chips.specs.declared.Target.{Target}
use Rattle.chips.specs.Chips.{number_of, target_of, Unnamed, ForChip, ByChip, of_none, of_chip}
use Rattle.chips.proofs.Chips.{on_named, on_none, by_either, same_number}
use Rattle.command.specs.Order.{Command}
use Rattle.reading.specs.Reading.{Stop, ended, stopped, Reading}
use Rattle.reading.specs.Decision.{at_stop}
use Rattle.reading.specs.Isolation.{Alike}
use Rattle.reading.specs.Vfes.{no_command}
use Rattle.reading.proofs.Isolation.{alike_reading}
use Rattle.batch.specs.declared.Answer.{Answer}
use Rattle.batch.specs.Answers.{refused_answer, accepted_answer, answer_for, records_for, answer_of, records_of}
use Rattle.batch.proofs.Isolation.{alike_answer}
use Rattle.progress.specs.declared.Progress.{Progress}
use Rattle.progress.specs.Steps.{Stage, stage, stop_by, at_end}
use Rattle.progress.specs.Fitting.{written_fit}
use Rattle.progress.proofs.Stages.{stage_stays, stage_run}
use Rattle.progress.proofs.Fitted.{written_length, written_other, written_at}
use Rattle.progress.proofs.Stops.{stop_read, stop_kept, stop_same}
use Rattle.feed.specs.declared.Carried.{Carried}
use Rattle.feed.specs.Feeding.{fresh, resumed, carried_by, Taken, Left, left, left_by, chunk_taken, refused_by, after_chunk, answer_at, usable, says_more, gives, answered, fed_of, Result, result_of, feed_of}
use Rattle.feed.specs.Counting.{dwords_after}
use Rattle.feed.specs.Claims.{Call, call, made, leaves, leaves_all, calls, before_last, last_made, after_last, joined, end_within, kept_in, records_kept, Words, Cut, Earlier, Late, Said, NotLast, Unread, Numbered, SameCut, cut_at, last_of, lengths_of, chunks_of, Throughout, Chunked}
use Rattle.feed.proofs.Counting.{take_chunk_lem}
use Rattle.feed.proofs.Feeds.{usable_answered, usable_open, usable_few, usable_rest_on}
use Rattle.feed.proofs.Within.{complete}
use Rattle.feed.proofs.Cuts.{After, after_none, after_usable, after_chunk_lem, room_is, answer_is, kept_are, accepted_are}

-- a call on a carried state that can be gone on from, and on any other
module _ (chip capacity : ℕ) (c : Carried) (chunk : List ℕ) (last : Bool) (r : List ℕ) where
  abbrev after : Left
  after = after_chunk chip capacity c chunk r

  fed_usable : usable c ≡ true → feed_of chip capacity c chunk last r ≡ result_of (fed_of last (length r) after.carried) after.records
  unfolding feed_of
  fed_usable u = simp u

  fed_late : usable c ≡ false → feed_of chip capacity c chunk last r ≡ result_of (gives c (refused_answer 19 0)) r
  unfolding feed_of
  fed_late u = simp u

  after_named : (ch : Chip) → chip ≡ number_of ch → after ≡ chunk_taken (target_of ch capacity) c chunk r
  unfolding after_chunk
  after_named ch e = on_named (λ m p. left (refused_by m p c) r) (λ x. chunk_taken (target_of x capacity) c chunk r) chip ch e

  after_none_named : Unnamed chip → after ≡ left (refused_by 18 0 c) r
  unfolding after_chunk
  after_none_named u = on_none (λ m p. left (refused_by m p c) r) (λ x. chunk_taken (target_of x capacity) c chunk r) chip u

  by_after : usable c ≡ true → (x : Left) → after ≡ x → feed_of chip capacity c chunk last r ≡ result_of (fed_of last (length r) x.carried) x.records
  by_after u x e = fed_usable u ∙ ap (λ (y : Left). result_of (fed_of last (length r) y.carried) y.records) e

-- what a call that is not the last leaves
more_leaves : (c : Carried) (n : ℕ) → (fed_of false n c).carried ≡ c
more_leaves c n = refl

-- THE CHIP IS NAMED
module _ (chip capacity : ℕ) (ch : Chip) (named : chip ≡ number_of ch) (r : List ℕ) where
  abbrev target : Target
  target = target_of ch capacity

  module _ (b : List ℕ) (w : Left) (h : After target r b w) (chunk : List ℕ) where
    abbrev x : Left
    x = chunk_taken target w.carried chunk w.records

    made_is : (last : Bool) → made w (call chip capacity chunk last) ≡ result_of (fed_of last (length w.records) x.carried) x.records
    made_is last =
        by_after chip capacity w.carried chunk last w.records (after_usable target r b w h) x (after_named chip capacity w.carried chunk last w.records ch named)

    more_is : leaves w (call chip capacity chunk false) ≡ x
    more_is = ap (λ (o : Result). left o.fed.carried o.records) (made_is false)

    after_more : After target r (b ++ chunk) (leaves w (call chip capacity chunk false))
    after_more = subst (After target r (b ++ chunk)) (sym more_is) (after_chunk_lem target r b w h chunk)

  after_calls : (chunks : List (List ℕ)) (b : List ℕ) (w : Left) → After target r b w → After target r (b ++ joined chunks []) (leaves_all w (calls chip capacity chunks))
  unfolding leaves_all
  after_calls [] b w h = subst (λ (l : List ℕ). After target r l w) (sym (append-nil b)) h
  after_calls (chunk ∷ chunks) b w h =
      subst (λ (l : List ℕ). After target r l (leaves_all (leaves w (call chip capacity chunk false)) (calls chip capacity chunks))) (append_assoc b chunk (joined chunks []))
      (after_calls chunks (b ++ chunk) (leaves w (call chip capacity chunk false)) (after_more b w h chunk))

  before : (chunks : List (List ℕ)) → After target r (joined chunks []) (before_last chip capacity chunks r)
  before chunks = after_calls chunks [] (left fresh r) (after_none target r)

joined_last : (chunks : List (List ℕ)) (last : List ℕ) → joined chunks [] ++ last ≡ joined chunks last
joined_last [] last = refl
joined_last (chunk ∷ chunks) last = append_assoc chunk (joined chunks []) last ∙ ap (λ (l : List ℕ). chunk ++ l) (joined_last chunks last)

-- the record buffer word by word
words_of : (cs : List Command) (r filled : List ℕ) → filled ≡ written_fit cs 0 r → Words cs r filled
words_of cs r filled e =
    record {
      record_at = λ i f p q w.
          let z : 0 + i ≡ i = omega arith in
          ap₂ (λ (l : List ℕ) (m : ℕ). get_or l (16 * m + f) 0) e (sym z) ∙ written_at cs 0 i r no_command f p (omega arith) w;
      untouched = λ p n. ap (λ (l : List ℕ). get_or l p 0) e ∙ written_other cs 0 r p (λ a b d. n (omega arith) d);
      size = ap length e ∙ written_length cs 0 r;
    }

module _ (chip capacity : ℕ) (ch : Chip) (named : chip ≡ number_of ch) (r : List ℕ) (chunks : List (List ℕ)) (last : List ℕ) where
  abbrev tg : Target
  tg = target_of ch capacity

  abbrev w : Left
  w = before_last chip capacity chunks r

  abbrev b : List ℕ
  b = joined chunks last

  abbrev y : Left
  y = chunk_taken tg w.carried last w.records

  done : After tg r b y
  done = subst (λ (l : List ℕ). After tg r l y) (joined_last chunks last) (after_chunk_lem tg r (joined chunks []) w (before chip capacity ch named r chunks) last)

  call_is : (final : Bool) → made w (call chip capacity last final) ≡ result_of (fed_of final (length w.records) y.carried) y.records
  call_is final = made_is chip capacity ch named r (joined chunks []) w (before chip capacity ch named r chunks) last final

  room : length w.records ≡ length r
  room = room_is tg r (joined chunks []) w (before chip capacity ch named r chunks)

  answer_of_lem : answer_of chip capacity b r ≡ answer_for tg b r
  unfolding answer_of
  answer_of_lem = on_named refused_answer (λ c. answer_for (target_of c capacity) b r) chip ch named

  records_of_lem : records_of chip capacity b r ≡ records_for tg b r
  unfolding records_of
  records_of_lem = on_named (λ m p. r) (λ c. records_for (target_of c capacity) b r) chip ch named

  kept_of : records_kept chip capacity b r ≡ written_fit (kept_in tg b) 0 r
  kept_of = on_named (λ m p. r) (λ c. written_fit (kept_in (target_of c capacity) b) 0 r) chip ch named

  left_kept : y.records ≡ written_fit (kept_in tg b) 0 r
  left_kept = kept_are tg r b y done

  records_are : (final : Bool) → (made w (call chip capacity last final)).records ≡ written_fit (kept_in tg b) 0 r
  records_are final = ap (λ (o : Result). o.records) (call_is final) ∙ left_kept

  words_for : ForChip chip (λ c. Words (kept_in (target_of c capacity) b) r (last_made chip capacity chunks last r).records)
  words_for c e =
      subst (λ (x : Chip). Words (kept_in (target_of x capacity) b) r (last_made chip capacity chunks last r).records) (same_number ch c (sym named ∙ e))
      (words_of (kept_in tg b) r (last_made chip capacity chunks last r).records (records_are true))

  cut_named : Cut chip capacity chunks last r
  cut_named =
      record {
        says = ap (λ (o : Result). o.fed.more) (call_is true);
        answer =
            ap (λ (o : Result). o.fed.answer) (call_is true)
            ∙ ap (λ (n : ℕ). answer_at n y.carried) room ∙ answer_is tg r b y done ∙ sym answer_of_lem;
        records = records_are true ∙ sym kept_of;
        words = words_for;
        unnamed = λ u. absurd (u ch named);
        accepted = λ e. records_are true ∙ accepted_are tg r b (ap (λ (a : Answer). a.number) (sym answer_of_lem) ∙ e) ∙ sym records_of_lem;
      }

  earlier_named : Earlier chip capacity chunks last r
  earlier_named =
      record {
        says = ap (λ (o : Result). o.fed.more) (call_is false);
        free = ap (λ (o : Result). o.fed.answer) (call_is false);
        records = records_are false ∙ sym kept_of;
      }

-- NO CHIP IS NAMED
module _ (chip capacity : ℕ) (none : Unnamed chip) (r : List ℕ) where
  pub record Idle (w : Left) : Type 0 where
    pub goes : usable w.carried ≡ true
    pub same : w.records ≡ r

  module _ (w : Left) (h : Idle w) (chunk : List ℕ) where
    none_made : (last : Bool) → made w (call chip capacity chunk last) ≡ result_of (fed_of last (length w.records) (refused_by 18 0 w.carried)) w.records
    none_made last =
        by_after chip capacity w.carried chunk last w.records h.goes (left (refused_by 18 0 w.carried) w.records)
        (after_none_named chip capacity w.carried chunk last w.records none)

    still_usable : usable (refused_by 18 0 w.carried) ≡ true
    unfolding usable
    still_usable =
        let c = w.carried in
        simp (and_left (eqb c.answered 0 && leb c.dwords 16385) _ h.goes)

    idle_more : Idle (leaves w (call chip capacity chunk false))
    idle_more =
        record {
          goes = ap (λ (o : Result). usable o.fed.carried) (none_made false) ∙ still_usable;
          same = ap (λ (o : Result). o.records) (none_made false) ∙ h.same;
        }

  idle_calls : (chunks : List (List ℕ)) (w : Left) → Idle w → Idle (leaves_all w (calls chip capacity chunks))
  unfolding leaves_all
  idle_calls [] w h = h
  idle_calls (chunk ∷ chunks) w h = idle_calls chunks (leaves w (call chip capacity chunk false)) (idle_more w h chunk)

  idle_fresh : Idle (left fresh r)
  unfolding usable
  idle_fresh = record { goes = refl; same = refl }

  module _ (chunks : List (List ℕ)) (last : List ℕ) where
    idle : Idle (before_last chip capacity chunks r)
    idle = idle_calls chunks (left fresh r) idle_fresh

    abbrev w₀ : Left
    w₀ = before_last chip capacity chunks r

    abbrev b₀ : List ℕ
    b₀ = joined chunks last

    none_records : (final : Bool) → (made w₀ (call chip capacity last final)).records ≡ r
    none_records final = ap (λ (o : Result). o.records) (none_made w₀ idle last final) ∙ idle.same

    eighteen : (n : ℕ) (c : Carried) → answer_at n (refused_by 18 0 c) ≡ refused_answer 18 0
    unfolding answer_at
    eighteen n c = refl

    none_kept : records_kept chip capacity b₀ r ≡ r
    none_kept = on_none (λ m p. r) (λ c. written_fit (kept_in (target_of c capacity) b₀) 0 r) chip none

    cut_none : Cut chip capacity chunks last r
    unfolding answer_of records_of
    cut_none =
        record {
          says = ap (λ (o : Result). o.fed.more) (none_made w₀ idle last true);
          answer =
              ap (λ (o : Result). o.fed.answer) (none_made w₀ idle last true) ∙ eighteen (length w₀.records) w₀.carried
              ∙ sym (on_none refused_answer (λ c. answer_for (target_of c capacity) b₀ r) chip none);
          records = none_records true ∙ sym none_kept;
          words = λ c e. absurd (none c e);
          unnamed = λ u. none_records true;
          accepted = λ e. none_records true ∙ sym (on_none (λ m p. r) (λ c. records_for (target_of c capacity) b₀ r) chip none);
        }

    earlier_none : Earlier chip capacity chunks last r
    earlier_none =
        record {
          says = ap (λ (o : Result). o.fed.more) (none_made w₀ idle last false);
          free = ap (λ (o : Result). o.fed.answer) (none_made w₀ idle last false);
          records = none_records false ∙ sym none_kept;
        }

-- every number names a chip or none
by_chips : (n : ℕ) (P : Type 0) → (Unnamed n → P) → ((c : Chip) → n ≡ number_of c → P) → P
by_chips n P none known = go (by_either n P (λ c. P) none known)
  where
    go : ByChip n P (λ c. P) → P
    go (of_none u p) = p
    go (of_chip c e p) = p

pub cut : (chip capacity : ℕ) (chunks : List (List ℕ)) (last r : List ℕ) → Cut chip capacity chunks last r
cut chip capacity chunks last r =
    by_chips chip (Cut chip capacity chunks last r) (λ u. cut_none chip capacity u r chunks last) (λ c e. cut_named chip capacity c e r chunks last)

pub earlier : (chip capacity : ℕ) (chunks : List (List ℕ)) (chunk r : List ℕ) → Earlier chip capacity chunks chunk r
earlier chip capacity chunks chunk r =
    by_chips chip (Earlier chip capacity chunks chunk r) (λ u. earlier_none chip capacity u r chunks chunk) (λ c e. earlier_named chip capacity c e r chunks chunk)

-- AFTER AN ANSWER
module _ (w : Left) (u : usable w.carried ≡ false) where
  refused_made : (c : Call) → made w c ≡ result_of (gives w.carried (refused_answer 19 0)) w.records
  refused_made c = fed_late c.chip c.capacity w.carried c.chunk c.last w.records u

  refused_leaves : (c : Call) → leaves w c ≡ w
  refused_leaves c = ap (λ (o : Result). left o.fed.carried o.records) (refused_made c)

refused_all : (late : List Call) (w : Left) → usable w.carried ≡ false → leaves_all w late ≡ w
unfolding leaves_all
refused_all [] w u = refl
refused_all (c ∷ cs) w u = ap (λ (x : Left). leaves_all x cs) (refused_leaves w u c) ∙ refused_all cs w u

late_from : (c : Carried) → usable c ≡ false → Late c
late_from c u chip capacity chunk last r = fed_late chip capacity c chunk last r u

closed : (c : Carried) → usable (answered c) ≡ false
closed c = sym (usable_answered (answered c) (λ e. omega arith))

-- a call that gives an answer leaves a carried state that none goes on from
answer_closes : (w : Left) (c : Call) → (made w c).fed.more ≡ 0 → usable (leaves w c).carried ≡ false
answer_closes w c q =
    by_test (usable w.carried)
    (λ u. ap (λ (o : Result). usable o.fed.carried) (taken u) ∙ by_last c.last (sym (ap (λ (o : Result). o.fed.more) (taken u)) ∙ q))
    (λ u. ap (λ (x : Left). usable x.carried) (refused_leaves w u c) ∙ u)
  where
    k : Carried
    k = (after_chunk c.chip c.capacity w.carried c.chunk w.records).carried

    taken : usable w.carried ≡ true → made w c ≡ result_of (fed_of c.last (length w.records) k) (after_chunk c.chip c.capacity w.carried c.chunk w.records).records
    taken u = fed_usable c.chip c.capacity w.carried c.chunk c.last w.records u

    by_last : (t : Bool) → (fed_of t (length w.records) k).more ≡ 0 → usable (fed_of t (length w.records) k).carried ≡ false
    by_last true e = closed k
    by_last false e = absurd (omega arith)

-- THE NUMBERS
abbrev ok_stop : ℕ → Bool
ok_stop n = stop_read n || eqb n 18

module _ (n : ℕ) (ok : ok_stop n ≡ true) (not18 : n ≡ 18 → ⊥) (not0 : n ≡ 0 → ⊥) (notEnd : n ≡ at_end → ⊥) where
  stop_few : n ≤ 10
  stop_few = go (eqb n 0) (leb 3 n) (leb n 9) (eqb n at_end) (eqb n 18) refl refl (ne_eqb n 0 not0) (ne_eqb n at_end notEnd) (ne_eqb n 18 not18) ok
    where
      go : (a b c d e : Bool) → leb 3 n ≡ b → leb n 9 ≡ c → a ≡ false → d ≡ false → e ≡ false → (a || (b && c) || d) || e ≡ true → n ≤ 10
      go a b true d e p q x y z t = let w = leb-true n 9 q in omega arith
      go true b false d e p q x y z t = let w : ◌≡◌ {A = ℕ} 0 1 = cc in absurd (omega arith)
      go false true false false false p q x y z t = let w : ◌≡◌ {A = ℕ} 0 1 = cc in absurd (omega arith)
      go false false false false false p q x y z t = let w : ◌≡◌ {A = ℕ} 0 1 = cc in absurd (omega arith)
      go false b false true e p q x y z t = let w : ◌≡◌ {A = ℕ} 0 1 = cc in absurd (omega arith)
      go false b false false true p q x y z t = let w : ◌≡◌ {A = ℕ} 0 1 = cc in absurd (omega arith)

abbrev NumberOf : Answer → Type 0
NumberOf a = (a.number ≤ 10) ⊎ (a.number ≡ 18)

at_stop_number : (room n : ℕ) (s : Stop) → ((m p : ℕ) → s ≡ stopped m p → m ≤ 10) → NumberOf (at_stop refused_answer accepted_answer room n s)
at_stop_number room n (stopped m p) h = inl (h m p refl)
at_stop_number room n (ended d) h = go (ltb room (16 * n))
  where
    go : (t : Bool) → NumberOf (cond t (refused_answer 10 d) (accepted_answer n d))
    go true = inl (omega arith)
    go false = inl (omega arith)

stop_number : (stop got place : ℕ) → ok_stop stop ≡ true → (stop ≡ 18 → ⊥) → (m p : ℕ) → stop_by stop got place ≡ stopped m p → m ≤ 10
unfolding stop_by
stop_number stop got place ok n m p e =
    by_test (eqb stop 0)
    (λ t. by_test (eqb got 0) (λ g. low 2 (simp (t, g) at e) (omega arith)) (λ g. low 5 (simp (t, g) at e) (omega arith)))
    (λ t. by_test (eqb stop at_end) (λ f. ends (simp (t, f) at e))
    (λ f. low stop (simp (t, f) at e) (stop_few stop ok n (eqb-false stop 0 t) (eqb-false stop at_end f))))
  where
    low : (k : ℕ) → stopped k place ≡ stopped m p → k ≤ 10 → m ≤ 10
    low k q l = let z : k ≡ m = cc in omega arith

    ends : ended place ≡ stopped m p → m ≤ 10
    ends q = let z : ◌≡◌ {A = ℕ} 0 1 = cc in absurd (omega arith)

answer_number : (room : ℕ) (c : Carried) → ok_stop c.stop ≡ true → NumberOf (answer_at room c)
unfolding answer_at
answer_number room c ok =
    by_test (eqb c.stop 18) (λ t. simp t (inr refl))
    (λ t. by_test (ltb 16384 c.dwords) (λ f. simp (t, f) (inl (omega arith)))
    (λ f. simp (t, f) (at_stop_number room c.order.commands (stop_by c.stop c.got c.place)
    (stop_number c.stop c.got c.place ok (eqb-false c.stop 18 t)))))

or_left : (a b : Bool) → a ≡ true → a || b ≡ true
or_left true b e = refl
or_left false b e = let z : ◌≡◌ {A = ℕ} 0 1 = cc in absurd (omega arith)

or_swap : (x y z u : Bool) → y || u || z ≡ true → (x || y || z) || u ≡ true
or_swap true y z u q = refl
or_swap false true z u q = refl
or_swap false false true u q = refl
or_swap false false false true q = refl
or_swap false false false false q = let e : ◌≡◌ {A = ℕ} 0 1 = cc in absurd (omega arith)

-- whatever is carried, a chunk leaves one of these
taken_stop : (target : Target) (c : Carried) (chunk r : List ℕ) → usable c ≡ true → ok_stop (chunk_taken target c chunk r).carried.stop ≡ true
unfolding chunk_taken
taken_stop target c chunk r u =
    let l = take (16384 - c.dwords) chunk in
    let p = resumed target c in
    ap (λ (t : Taken). ok_stop t.stage.progress.stop) (take_chunk_lem chunk c.dwords (stage p r) (usable_few c u))
    ∙ ap (λ (s : Stage). ok_stop s.progress.stop) (stage_run l p r)
    ∙ by_test (eqb c.stop 0)
    (λ t. or_left _ _ (stop_kept l p (simp t)))
    (λ t. ap (λ (q : Progress). ok_stop q.stop) (stop_same l p t) ∙ let n = c.stop in or_swap (eqb n 0) (leb 3 n && leb n 9) (eqb n at_end) (eqb n 18) (usable_rest_on c u t))

after_stop : (chip capacity : ℕ) (c : Carried) (chunk : List ℕ) (last : Bool) (r : List ℕ) → usable c ≡ true → ok_stop (after_chunk chip capacity c chunk r).carried.stop ≡ true
after_stop chip capacity c chunk last r u =
    by_chips chip (ok_stop (after_chunk chip capacity c chunk r).carried.stop ≡ true)
    (λ n. ap (λ (x : Left). ok_stop x.carried.stop) (after_none_named chip capacity c chunk last r n))
    (λ ch e. ap (λ (x : Left). ok_stop x.carried.stop) (after_named chip capacity c chunk last r ch e) ∙ taken_stop (target_of ch capacity) c chunk r u)

-- a call on a carried state that can be gone on from has none of 19
fed_number : (k : Carried) (room : ℕ) (t : Bool) → ok_stop k.stop ≡ true → NumberOf (fed_of t room k).answer
fed_number k room true ok = answer_number room k ok
fed_number k room false ok = inl (omega arith)

module _ (w : Left) (c : Call) where
  abbrev k : Carried
  k = (after_chunk c.chip c.capacity w.carried c.chunk w.records).carried

  taken : usable w.carried ≡ true → made w c ≡ result_of (fed_of c.last (length w.records) k) (after_chunk c.chip c.capacity w.carried c.chunk w.records).records
  taken u = fed_usable c.chip c.capacity w.carried c.chunk c.last w.records u

  taken_number : usable w.carried ≡ true → NumberOf (made w c).fed.answer
  taken_number u =
      subst (λ (o : Result). NumberOf o.fed.answer) (sym (taken u))
      (fed_number k (length w.records) c.last (after_stop c.chip c.capacity w.carried c.chunk c.last w.records u))

  pub numbered : Numbered (made w c).fed
  numbered =
      by_test (usable w.carried) (λ u. widen (taken_number u))
      (λ u. subst (λ (o : Result). Numbered o.fed) (sym (refused_made w u c)) (inr (inr refl)))
    where
      widen : NumberOf (made w c).fed.answer → Numbered (made w c).fed
      widen (inl x) = inl x
      widen (inr x) = inr (inl x)

  not_nineteen : NumberOf (made w c).fed.answer → (made w c).fed.answer.number ≡ 19 → ⊥
  not_nineteen (inl x) e = omega arith
  not_nineteen (inr x) e = omega arith

  last_more : (t : Bool) → t ≡ true → (fed_of t (length w.records) k).more ≡ 0
  last_more true e = refl
  last_more false e = let z : ◌≡◌ {A = ℕ} 0 1 = cc in absurd (omega arith)

  pub said : Said w c
  said =
      record {
        last = λ e.
            by_test (usable w.carried) (λ u. ap (λ (o : Result). o.fed.more) (taken u) ∙ last_more c.last e)
            (λ u. ap (λ (o : Result). o.fed.more) (refused_made w u c));
        refused = λ e. by_test (usable w.carried) (λ u. absurd (not_nineteen (taken_number u) e)) (λ u. refused_made w u c);
        late = λ e. late_from (made w c).fed.carried (answer_closes w c e);
      }

-- AFTER A CALL THAT NAMED NO CHIP
pub record Marked (w : Left) : Type 0 where
  pub goes : usable w.carried ≡ true
  pub eighteenth : w.carried.stop ≡ 18

marked_usable : (n : ℕ) (c : Carried) → c.answered ≡ 0 → c.dwords ≤ 16385 → c.stop ≡ 18 → usable c ≡ true
unfolding usable
marked_usable n c a d e = simp (eq-eqb c.answered 0 a, le-leb c.dwords 16385 d, e)

dwords_few : (s n : ℕ) → dwords_after s n ≤ 16385
dwords_few s n =
    by_test (ltb 16384 (s + n)) (λ e. let z : dwords_after s n ≡ 16385 = simp e in omega arith)
    (λ e. let y = ltb-false 16384 (s + n) e in let z : dwords_after s n ≡ s + n = simp e in omega arith)

module _ (w : Left) (h : Marked w) (c : Call) where
  stays_stop : (target : Target) → chunk_taken target w.carried c.chunk w.records
      ≡ left (carried_by (dwords_after w.carried.dwords (length c.chunk)) (resumed target w.carried)) w.records
  unfolding chunk_taken
  stays_stop target =
      ap left_by (take_chunk_lem c.chunk w.carried.dwords (stage (resumed target w.carried) w.records) (usable_few w.carried h.goes)
      ∙ ap (taken_of (dwords_after w.carried.dwords (length c.chunk)))
      (stage_stays (resumed target w.carried) w.records (λ e. let z = h.eighteenth in omega arith) (take (16384 - w.carried.dwords) c.chunk)))
    where
      taken_of : ℕ → Stage → Taken
      taken_of n s = record { dwords = n; stage = s }

  still : (l : Left) → after_chunk c.chip c.capacity w.carried c.chunk w.records ≡ l → usable l.carried ≡ true → l.carried.stop ≡ 18
      → c.last ≡ false → Marked (leaves w c)
  still l e u s q =
      let m : made w c ≡ result_of (fed_of false (length w.records) l.carried) l.records =
      by_after c.chip c.capacity w.carried c.chunk c.last w.records h.goes l e
      ∙ ap (λ (t : Bool). result_of (fed_of t (length w.records) l.carried) l.records) q in
      record {
        goes = ap (λ (o : Result). usable o.fed.carried) m ∙ u;
        eighteenth = ap (λ (o : Result). o.fed.carried.stop) m ∙ s;
      }

  marked_more : c.last ≡ false → Marked (leaves w c)
  marked_more q =
      by_chips c.chip (Marked (leaves w c))
      (λ n. still (left (refused_by 18 0 w.carried) w.records) (after_none_named c.chip c.capacity w.carried c.chunk c.last w.records n)
      (marked_usable 0 (refused_by 18 0 w.carried) (usable_open w.carried h.goes) (usable_few w.carried h.goes) refl) refl q)
      (λ ch e. let n = dwords_after w.carried.dwords (length c.chunk) in
      let p = resumed (target_of ch c.capacity) w.carried in
      still (left (carried_by n p) w.records)
      (after_named c.chip c.capacity w.carried c.chunk c.last w.records ch e ∙ stays_stop (target_of ch c.capacity))
      (marked_usable 0 (carried_by n p) refl (dwords_few w.carried.dwords (length c.chunk)) h.eighteenth) h.eighteenth q)

  answers_eighteen : (x : Carried) → x.stop ≡ 18 → (n : ℕ) → answer_at n x ≡ refused_answer 18 0
  unfolding answer_at
  answers_eighteen x e n = simp e

  marked_last : c.last ≡ true → (made w c).fed.answer ≡ refused_answer 18 0
  marked_last q =
      by_chips c.chip ((made w c).fed.answer ≡ refused_answer 18 0)
      (λ n. by_left (left (refused_by 18 0 w.carried) w.records) (after_none_named c.chip c.capacity w.carried c.chunk c.last w.records n) refl)
      (λ ch e. by_left (left (carried_by (dwords_after w.carried.dwords (length c.chunk)) (resumed (target_of ch c.capacity) w.carried)) w.records)
      (after_named c.chip c.capacity w.carried c.chunk c.last w.records ch e ∙ stays_stop (target_of ch c.capacity)) h.eighteenth)
    where
      by_left : (l : Left) → after_chunk c.chip c.capacity w.carried c.chunk w.records ≡ l → l.carried.stop ≡ 18 → (made w c).fed.answer ≡ refused_answer 18 0
      by_left l e s =
          ap (λ (o : Result). o.fed.answer)
          (by_after c.chip c.capacity w.carried c.chunk c.last w.records h.goes l e
          ∙ ap (λ (t : Bool). result_of (fed_of t (length w.records) l.carried) l.records) q)
          ∙ answers_eighteen l.carried s (length w.records)

marked_all : (cs : List Call) (w : Left) → Marked w → NotLast cs → Marked (leaves_all w cs)
unfolding leaves_all
marked_all [] w h n = h
marked_all (c ∷ cs) w h n = marked_all cs (leaves w c) (marked_more w h c n.0) n.1

-- a call that names no chip and says "more" leaves that mark
marks : (w : Left) (c : Call) → Unnamed c.chip → (made w c).fed.more ≡ 1 → Marked (leaves w c)
marks w c n e =
    by_test (usable w.carried)
    (λ u. let m = by_after c.chip c.capacity w.carried c.chunk c.last w.records u (left (refused_by 18 0 w.carried) w.records)
    (after_none_named c.chip c.capacity w.carried c.chunk c.last w.records n) in
    by_last u m c.last refl (sym (ap (λ (o : Result). o.fed.more) m) ∙ e))
    (λ u. let z : ◌≡◌ {A = ℕ} 0 1 = sym (ap (λ (o : Result). o.fed.more) (refused_made w u c)) ∙ e in absurd (omega arith))
  where
    by_last : usable w.carried ≡ true → made w c ≡ result_of (fed_of c.last (length w.records) (refused_by 18 0 w.carried)) w.records → (t : Bool) → c.last ≡ t
        → (fed_of c.last (length w.records) (refused_by 18 0 w.carried)).more ≡ 1 → Marked (leaves w c)
    by_last u m true q f =
        let z : ◌≡◌ {A = ℕ} 0 1 = sym (ap (λ (t : Bool). (fed_of t (length w.records) (refused_by 18 0 w.carried)).more) q) ∙ f in absurd (omega arith)
    by_last u m false q f =
        let o : made w c ≡ result_of (says_more (refused_by 18 0 w.carried)) w.records =
        m ∙ ap (λ (t : Bool). result_of (fed_of t (length w.records) (refused_by 18 0 w.carried)) w.records) q in
        record {
          goes = ap (λ (x : Result). usable x.fed.carried) o
              ∙ marked_usable 0 (refused_by 18 0 w.carried) (usable_open w.carried u) (usable_few w.carried u) refl;
          eighteenth = ap (λ (x : Result). x.fed.carried.stop) o;
        }

pub unread : (w : Left) (c : Call) (between : List Call) (last : Call) → Unread w c between last
unread w c between last n m nl q = marked_last (leaves_all (leaves w c) between) (marked_all between (leaves w c) (marks w c n m) nl) last q

-- THE GUARDS
cut_all : (ns b : List ℕ) → joined (cut_at ns b) (last_of ns b) ≡ b
cut_all [] b = refl
cut_all (n ∷ ns) b = ap (λ (l : List ℕ). take n b ++ l) (cut_all ns (drop n b)) ∙ take-append-drop n b

cut_chunks : (chunks : List (List ℕ)) (last : List ℕ) → cut_at (lengths_of chunks) (joined chunks last) ≡ chunks
cut_chunks [] last = refl
cut_chunks (chunk ∷ chunks) last =
    ap₂ (λ (x y : List ℕ). x ∷ cut_at (lengths_of chunks) y) (take-append_seam chunk (joined chunks last)) (drop-append_seam chunk (joined chunks last))
    ∙ ap (◌∷◌ chunk) (cut_chunks chunks last)

cut_last : (chunks : List (List ℕ)) (last : List ℕ) → last_of (lengths_of chunks) (joined chunks last) ≡ last
cut_last [] last = refl
cut_last (chunk ∷ chunks) last = ap (last_of (lengths_of chunks)) (drop-append_seam chunk (joined chunks last)) ∙ cut_last chunks last

cut_each : (chip capacity : ℕ) (chunks : List (List ℕ)) → chunks_of (calls chip capacity chunks) ≡ chunks
cut_each chip capacity [] = refl
cut_each chip capacity (chunk ∷ chunks) = ap (◌∷◌ chunk) (cut_each chip capacity chunks)

cut_throughout : (chip capacity : ℕ) (chunks : List (List ℕ)) → Throughout chip capacity (calls chip capacity chunks)
cut_throughout chip capacity [] = tt
cut_throughout chip capacity (chunk ∷ chunks) = (refl, cut_throughout chip capacity chunks)

-- THEOREM
pub chunked : Chunked
chunked =
    record {
      cut = cut;
      earlier = earlier;
      said = said;
      unread = unread;
      numbered = numbered;
      guards =
          record {
            cut = λ b ns. cut_all ns b;
            chunks = cut_chunks;
            last = cut_last;
            each = cut_each;
            throughout = cut_throughout;
            none_between = tt;
            one_more = λ c cs e h. (e, h);
            complete = complete;
          };
    }

-- LAW: demand 3
module _ (chip capacity : ℕ) (chunks chunks' : List (List ℕ)) (last last' r : List ℕ) (calls₁ calls₂ : List Call)
    (alike : ForChip chip (λ c. Alike (target_of c capacity) (joined chunks last) (joined chunks' last'))) where
  abbrev b₁ : List ℕ
  b₁ = joined chunks last

  abbrev b₂ : List ℕ
  b₂ = joined chunks' last'

  kept_same : records_kept chip capacity b₁ r ≡ records_kept chip capacity b₂ r
  kept_same =
      by_chips chip (records_kept chip capacity b₁ r ≡ records_kept chip capacity b₂ r)
      (λ u. none_kept chip capacity u r chunks last ∙ sym (none_kept chip capacity u r chunks' last'))
      (λ c e. kept_of chip capacity c e r chunks last
      ∙ ap (λ (x : Reading). written_fit (end_within 16384 x.passed) 0 r) (alike_reading (target_of c capacity) b₁ b₂ (alike c e))
      ∙ sym (kept_of chip capacity c e r chunks' last'))

  left_late : (cs : List (List ℕ)) (l : List ℕ) (late : List Call) → (leaves_all (after_last chip capacity cs l r) late).records ≡ records_kept chip capacity (joined cs l) r
  left_late cs l late =
      ap (λ (x : Left). x.records)
      (refused_all late (after_last chip capacity cs l r) (answer_closes (before_last chip capacity cs r) (call chip capacity l true) (cut chip capacity cs l r).says))
      ∙ (cut chip capacity cs l r).records

  pub same_cut : SameCut chip capacity chunks chunks' last last' r calls₁ calls₂
  same_cut =
      record {
        says = (cut chip capacity chunks last r).says ∙ sym (cut chip capacity chunks' last' r).says;
        answer =
            (cut chip capacity chunks last r).answer ∙ alike_answer chip capacity b₁ b₂ alike r
            ∙ sym (cut chip capacity chunks' last' r).answer;
        records = left_late chunks last calls₁ ∙ kept_same ∙ sym (left_late chunks' last' calls₂);
      }
