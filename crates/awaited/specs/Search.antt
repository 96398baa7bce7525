-- The search for row 25 over records: what it looks for, what it may pass over, and what it counts on. None of this is a rule: that the
-- first record awaited is that of the lowest object waited for, `search_verdict` of runs/proofs/Awaited.antt shows. Below, d are the dwords
-- of the record buffer.
use Rattle.std.specs.Prelude.{◌≡◌, ℕ, ◌<◌, ◌≤◌, Bool, true, false, not, cond, ◌&&◌, List, ltb, eqb, length, get_or}
use Rattle.laws.specs.Find.{find_first}
use Rattle.objects.specs.declared.Candidate.{Candidate}
use Rattle.objects.specs.Recorded.{word_at, is_object, RecordIn, delta_to, reached_at}
use Rattle.awaited.specs.declared.Stretch.{Stretch}
use Rattle.awaited.specs.declared.Found.{Found}

-- is object j unfinished? The rule's words are in runs/specs/Run.antt.
abbrev pub unfinished_at : List ℕ → ℕ → Bool
unfinished_at states j = not (eqb (get_or states j 0) 2)

-- is record r that of an unfinished object? Its number stands in the record.
unfoldable pub unfinished_record : List ℕ → List ℕ → ℕ → Bool
unfinished_record d states r = is_object d r && unfinished_at states (word_at d r 15)

-- is it that of an object that a candidate waits for, where it is one before the candidate's own?
unfoldable pub awaited_record : List ℕ → List ℕ → Candidate → ℕ → Bool
awaited_record d states c r = unfinished_record d states r && ltb (delta_to d c r) 8

-- f holds nowhere from a up to b
abbrev pub NoneIn : (ℕ → Bool) → ℕ → ℕ → Type 0
NoneIn f a b = (r : ℕ) → a ≤ r → r < b → f r ≡ false

-- the first n records are in the buffer
abbrev pub RecordsIn : List ℕ → ℕ → Type 0
RecordsIn d n = (r : ℕ) → r < n → RecordIn d r

-- The quick test that comes before `delta_to`: no delta of the candidate leads to the object of a record that fails it.
pub record QuickTest (d : List ℕ) (c : Candidate) (rows : List ℕ) : Type 0 where
  pub sixteen : length rows ≡ 16
  pub unreached : (r : ℕ) → reached_at d c.corner rows r ≡ false → delta_to d c r ≡ 8

-- one record is in the buffer, and where it is an OBJECT's, the object has a state byte
pub record StateIn (d states : List ℕ) (r : ℕ) : Type 0 where
  pub within : RecordIn d r
  pub state : is_object d r ≡ true → word_at d r 15 < length states

-- so it is for each of the first n
abbrev pub StatesIn : List ℕ → List ℕ → ℕ → Type 0
StatesIn d states n = (r : ℕ) → r < n → StateIn d states r

-- a stretch without the record of an unfinished object
pub record Crossed (d states : List ℕ) (s : Stretch) : Type 0 where
  pub forward : s.from ≤ s.to
  pub finished : NoneIn (unfinished_record d states) s.from s.to

-- a block of records from r on ends at e, and not past own
pub record BlockEnd (r own e : ℕ) : Type 0 where
  pub forward : r < e
  pub within : e ≤ own

-- where the search goes on at record r
unfoldable pub past_of : Stretch → ℕ → ℕ
past_of s r = cond (eqb s.from r) s.to r

-- the stretch that is kept where one from a to b was crossed
unfoldable pub kept_of : Stretch → ℕ → ℕ → Stretch
kept_of s a b = cond (eqb a b) s (record { from = a; to = b })

-- the search before record own found the first record awaited, own where there is none
pub record Finds (d states : List ℕ) (c : Candidate) (own : ℕ) (f : Found) : Type 0 where
  pub first : f.at ≡ find_first own (awaited_record d states c)
  pub crossed : Crossed d states f.crossed
