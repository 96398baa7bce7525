-- Objects as the code has them: out of the records. `recorded_objects` of proofs/RecordedObjects.antt shows that these are the objects of
-- the batch. Below, d are the dwords of the record buffer, which holds n records.
use Rattle.std.specs.Prelude.{ℕ, zero, suc, ◌+◌, ◌-◌, ◌*◌, ◌<◌, ◌≤◌, ◌≡◌, Bool, true, cond, ◌&&◌, List, [], ◌∷◌, eqb, length, get_or, drop}
use Rattle.records.specs.Records.{slot}
use Rattle.deltas.specs.InPlay.{uses_scoreboard, type_of, joined_mask}
use Rattle.deltas.specs.Lowest.{lowest_at}
use Rattle.deltas.specs.Reach.{place_of, corner_of, near_to, reached_from}
use Rattle.deltas.specs.declared.Position.{Position}
use Rattle.objects.specs.declared.Candidate.{Candidate}
use Rattle.objects.specs.Objects.{Object, object_with, object_at}

-- word f of record r
unfoldable pub word_at : List ℕ → ℕ → ℕ → ℕ
word_at d r f = get_or d (slot r f) 0

-- word f of the VFE's record that the record r of an OBJECT names in its word 14
unfoldable pub vfe_word_at : List ℕ → ℕ → ℕ → ℕ
vfe_word_at d r f = word_at d (word_at d r 14) f

-- "OBJECT: index, scoreboard use, children, synchronised, X, Y, colour, mask, ..": words 3 to 10; "VFE: .. dwords 5, 6, 7": words 8 to 10
unfoldable pub object_recorded : List ℕ → ℕ → Object
object_recorded d r =
    object_with (word_at d r 7) (word_at d r 8) (word_at d r 9) (word_at d r 4) (word_at d r 10)
    (vfe_word_at d r 8) (vfe_word_at d r 9) (vfe_word_at d r 10)

-- is record r an OBJECT's?
unfoldable pub is_object : List ℕ → ℕ → Bool
is_object d r = eqb (word_at d r 0) 7

-- the objects of m records from record r on
unfoldable pub recorded_from : List ℕ → ℕ → ℕ → List Object
recorded_from d r zero = []
recorded_from d r (suc m) = cond (is_object d r) (object_recorded d r ∷ recorded_from d (r + 1) m) (recorded_from d (r + 1) m)

-- the objects of all n records
abbrev pub objects_recorded : List ℕ → ℕ → List Object
objects_recorded d n = recorded_from d 0 n

-- the buffer has room for the records, of which there are as many as a batch of 16,384 dwords can have
pub record Records (d : List ℕ) (n : ℕ) : Type 0 where
  pub room : 16 * n ≤ length d
  pub limit : n ≤ 16384

-- one record is in the buffer
pub record RecordIn (d : List ℕ) (r : ℕ) : Type 0 where
  pub room : 16 * r + 16 ≤ length d
  pub limit : r < 16384

-- how many objects have records before record r
abbrev pub objects_before : List ℕ → ℕ → ℕ
objects_before d r = length (recorded_from d 0 r)

-- "object number. Numbering starts at 0": every OBJECT's record has in its last word how many objects have records before it
abbrev pub Numbered : List ℕ → ℕ → Type 0
Numbered d n = (r : ℕ) → r < n → is_object d r ≡ true → word_at d r 15 ≡ objects_before d r

-- object j is the first that stands at record r or after it
pub record Spotted (d : List ℕ) (n j r : ℕ) : Type 0 where
  pub within : r ≤ n
  pub rest : recorded_from d r (n - r) ≡ drop j (objects_recorded d n)

-- record r is object k's
pub record Holds (d : List ℕ) (n k r : ℕ) : Type 0 where
  pub below : r < n
  pub kind : is_object d r ≡ true
  pub object : object_at (objects_recorded d n) k ≡ object_recorded d r
  pub spot : Spotted d n k r

-- The walk to object k's record: from record r it goes on by so many. An object before k is as many records off as objects, or more, since
-- each takes a record.
unfoldable pub step_to : List ℕ → ℕ → ℕ → ℕ
step_to d k r = cond (is_object d r) (k - word_at d r 15) 1

-- 24 asks for this: the object of record r "uses a scoreboard of type 0"
unfoldable pub stalls_at : List ℕ → ℕ → Bool
stalls_at d r = uses_scoreboard (word_at d r 4) (vfe_word_at d r 8) && eqb (type_of (vfe_word_at d r 8)) 0

-- the deltas in play of the object of record r, as the code's mask
abbrev pub mask_at : List ℕ → ℕ → ℕ
mask_at d r = joined_mask (word_at d r 4) (word_at d r 10) (vfe_word_at d r 8)

-- the place from which every delta of the object of record r leads 0 to 15 on
abbrev pub corner_at : List ℕ → ℕ → ℕ
corner_at d r = corner_of (word_at d r 7) (word_at d r 8)

-- where the object of record r stands
abbrev pub position_at : List ℕ → ℕ → Position
position_at d r = record { x = word_at d r 7; y = word_at d r 8 }

-- what 25 compares, of the object of record r that is to start, and the corner for the quick test
unfoldable pub candidate_of : List ℕ → ℕ → Candidate
candidate_of d r =
    record {
      position = position_at d r;
      colour = word_at d r 9;
      deltas = record { mask = mask_at d r; d6 = vfe_word_at d r 9; d7 = vfe_word_at d r 10 };
      corner = corner_at d r;
    }

-- the lowest delta of a candidate at the object of record r, if that one uses a scoreboard and colours agree; else 8
unfoldable pub delta_to : List ℕ → Candidate → ℕ → ℕ
delta_to d c r =
    cond (uses_scoreboard (word_at d r 4) (vfe_word_at d r 8) && eqb (word_at d r 9) c.colour)
    (lowest_at c.position.x c.position.y c.deltas.mask c.deltas.d6 c.deltas.d7 (word_at d r 7) (word_at d r 8)) 8

-- where the object of record r stands, as one number
abbrev pub place_at : List ℕ → ℕ → ℕ
place_at d r = place_of (word_at d r 7) (word_at d r 8)

-- is the object of record r near enough for a delta to lead there? One that is not fails the quick test (`far_unreached` of
-- proofs/RecordWords.antt).
unfoldable pub near_at : List ℕ → ℕ → ℕ → Bool
near_at d corner r = near_to corner (place_at d r)

-- does the object of record r pass the quick test? One that does not is nobody whom a delta of the candidate leads to (`unreached` of
-- proofs/RecordWords.antt).
unfoldable pub reached_at : List ℕ → ℕ → List ℕ → ℕ → Bool
reached_at d corner rows r = reached_from corner rows (place_at d r)
