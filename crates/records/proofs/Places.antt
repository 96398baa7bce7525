-- Where the second pass goes on, after one command or several. Assumes nothing.
use mathlib.Core.Path.{◌≡◌, refl, sym, ap, subst, subst⁻¹, ◌∙◌}
use mathlib.Core.Bool.{true}
use Prim.Native.Nat.{ℕ, ◌+◌, ◌-◌, ◌*◌, ◌<◌, ◌≤◌}
use native.Mathlib.Omega.{arith}
use mathlib.Core.List.{List}
use lib.ListN.{length, get_or, drop}
use Rattle.chips.specs.declared.Chip.{Chip}
use Rattle.command.specs.declared.State.{State}
use Rattle.command.specs.Kinds.{kind_of, length_field, length_allowed, total_of, head_of}
use Rattle.command.specs.Order.{command_of, state_after}
use Rattle.command.proofs.Order.{after_chip}
use Rattle.record.specs.Record.{record_of}
use Rattle.std.specs.Prelude.{Option, Some, None}
use Rattle.words.specs.Dwords.{Buffer, put_in}
use Rattle.reading.specs.declared.Place.{Place}
use Rattle.reading.specs.Turns.{Next, turn_of, Header}
use Rattle.records.specs.Records.{put_words}
use Rattle.judge.proofs.Judged.{passed_length}
use Rattle.reading.proofs.Steps.{turn_header}
use Rattle.records.specs.Turns.{with_record, records_from, Left, rest_of, GoesOn, MayRepeat}
use Rattle.records.proofs.Fills.{length_passed, following_end, following_then, record_here, left_in, left_passes, left_room, left_last, left_less, left_more, left_next, left_records}

-- how many dwords a slice holds goes by its length: `dwords` is how it is read
module _ {E : Type 0} (dwords : List E → List ℕ) (same : (l l' : List E) → length l ≡ length l' → length (dwords l) ≡ length (dwords l')) where
  pub same_left : (b : List ℕ) (at : ℕ) (st : State) (r r' : List E) → length r' ≡ length r → Left b at st (length (dwords r)) → Left b at st (length (dwords r'))
  same_left b at st r r' p l = subst (Left b at st) (sym (same r' r p)) l

  pub room_there : (b : List ℕ) (at : ℕ) (st : State) (r r₀ : List E) → length r ≡ length r₀ → Left b at st (length (dwords r₀))
      → 16 * st.commands + 16 ≤ length (dwords r)
  room_there b at st r r₀ p l = left_room b at st (length (dwords r)) (same_left b at st r₀ r p l)

pub left_small : (b : List ℕ) (at : ℕ) (st : State) (n : ℕ) → Left b at st n → at < 16384
left_small b at st n l = let i = left_in b at st n l in let z = l.limit in omega arith

pub left_length : (b : List ℕ) (at : ℕ) (st : State) (n : ℕ) → Left b at st n → (k d : ℕ) → d ≡ get_or b at 0 → k ≡ kind_of st.chip d
    → length_allowed k (length_field d) ≡ true
left_length b at st n l k d ed ek = length_passed b at d k st ed ek (left_passes b at st n l)

pub allowed_length : (c : Chip) (k d : ℕ) → Header c k d → length_allowed k (length_field d) ≡ true
allowed_length c k d h = passed_length k d (total_of k d) h.allowed

-- a header of one chip is one of a state with that chip
pub same_header : (c c' : Chip) (k d : ℕ) → c' ≡ c → Header c k d → k ≡ kind_of c' d
same_header c c' k d e h = h.kind ∙ ap (λ (x : Chip). kind_of x d) (sym e)

-- The command at a place, of kind k with first dword d. t and h are its total and its own dwords, w its record, by the code, and r' the
-- record buffer with it.
module _ (b : List ℕ) (at : ℕ) (st : State) (n : ℕ) (l : Left b at st n) (k d : ℕ) (ed : d ≡ get_or b at 0) (ek : k ≡ kind_of st.chip d)
    (t : ℕ) (h : List ℕ) (et : t ≡ total_of k d) (eh : h ≡ head_of k (drop at b)) where
  here_recorded : {E : Type 0} (stored : List E → ℕ → ℕ → List E) (r r' : Buffer E) (w : List ℕ) → w ≡ record_of (command_of k at t h st)
      → r' ≡ put_words (put_in stored) r st.commands w 16 → r' ≡ with_record stored b at st r
  here_recorded = record_here b at d k st ed ek t h et eh

  pub last_records : {E : Type 0} (stored : List E → ℕ → ℕ → List E) (r r' : Buffer E) (w : List ℕ) → k ≡ 2 → w ≡ record_of (command_of k at t h st)
      → r' ≡ put_words (put_in stored) r st.commands w 16 → r' ≡ records_from stored b at st r
  last_records stored r r' w q ew er =
      left_last b at st n l stored r r' (sym (following_end b at d k st ed ek (left_passes b at st n l) t h et eh q)) (here_recorded stored r r' w ew er)

  -- s is the state after it
  module _ (s : State) (q : k ≡ 2 → ⊥) (es : s ≡ state_after k h st) where
    turns : turn_of (drop at b) st ≡ Next t s
    turns = sym (following_then b at d k st ed ek (left_passes b at st n l) t h et eh s q es)

    pub then_less : length b - (at + t) < length b - at
    then_less = left_less b at st n l t s turns

    pub then_more : at + 1 ≤ at + t
    then_more = left_more b at st n l t s turns

    pub then_left : Left b (at + t) s n
    then_left = left_next b at st n l t s turns

    pub then_header : Header s.chip k d
    then_header = turn_header b at st t s d k k (left_in b at st n l) ed ek refl turns

    pub then_chip : s.chip ≡ st.chip
    then_chip = ap (λ (x : State). x.chip) es ∙ after_chip k h st

    pub then_records : {E : Type 0} (stored : List E → ℕ → ℕ → List E) (r r' : Buffer E) (w : List ℕ) → w ≡ record_of (command_of k at t h st)
        → r' ≡ put_words (put_in stored) r st.commands w 16 → records_from stored b (at + t) s r' ≡ records_from stored b at st r
    then_records stored r r' w ew er = left_records b at st n l t s turns stored r r' (here_recorded stored r r' w ew er)

-- what one command of a header leaves, and then the others: x are the records from the first on, y and z those that are left
pub then_more_of : (b : List ℕ) (low n to : ℕ) (p : Place) → low ≤ to → to ≤ p.at → Left b p.at p.st n → GoesOn b low n (Some p)
unfolding GoesOn
then_more_of b low n to p q o l = (omega arith, l)

-- where a pass goes on, by what the code found
pub some_header : (k d : ℕ) (w : Option Place) (p : Place) → w ≡ Some p → MayRepeat k d w → Header p.st.chip k d
unfolding MayRepeat
some_header k d w p e h = subst (MayRepeat k d) e h

module _ (b : List ℕ) (low n : ℕ) (w : Option Place) (p : Place) (e : w ≡ Some p) where
  pub some_left : GoesOn b low n w → Left b p.at p.st n
  unfolding GoesOn
  some_left g = (subst (GoesOn b low n) e g).1

  pub some_more : GoesOn b low n w → low ≤ p.at
  unfolding GoesOn
  some_more g = (subst (GoesOn b low n) e g).0

  pub some_less : (at : ℕ) → low ≡ at + 1 → GoesOn b low n w → length b - p.at < length b - at
  some_less at q g = let z = some_more g in let i = left_in b p.at p.st n (some_left g) in omega arith

-- the record buffer by where the pass goes on: w is the place, and x the record buffer, by the code
module _ {E : Type 0} (stored : List E → ℕ → ℕ → List E) (b : List ℕ) (w : Option Place) where
  pub none_records : (x y z : Buffer E) → rest_of stored b w x ≡ y → w ≡ None → y ≡ z → x ≡ z
  unfolding rest_of
  none_records x y z h e q = ap (λ (v : Option Place). rest_of stored b v x) (sym e) ∙ h ∙ q

  pub some_records : (x y z : Buffer E) (p : Place) → rest_of stored b w x ≡ y → w ≡ Some p → y ≡ z → records_from stored b p.at p.st x ≡ z
  unfolding rest_of
  some_records x y z p h e q = ap (λ (v : Option Place). rest_of stored b v x) (sym e) ∙ h ∙ q

  -- a pass that ended has ended, as the code gives it back
  pub none_rest : (r : Option Place) (x y : Buffer E) → rest_of stored b w x ≡ y → w ≡ None → r ≡ None → rest_of stored b r x ≡ y
  none_rest r x y h e q = ap (λ (v : Option Place). rest_of stored b v x) (q ∙ sym e) ∙ h

pub none_goes : (b : List ℕ) (low n : ℕ) (r : Option Place) → r ≡ None → GoesOn b low n r
unfolding GoesOn
none_goes b low n r e = subst⁻¹ (GoesOn b low n) e tt

pub some_rest : {E : Type 0} (stored : List E → ℕ → ℕ → List E) (b : List ℕ) (p : Place) (x y : Buffer E) → records_from stored b p.at p.st x ≡ y → rest_of stored b (Some p) x ≡ y
unfolding rest_of
some_rest stored b p x y e = e
