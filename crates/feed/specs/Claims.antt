-- What is claimed of every way of cutting a batch, over the definitions that the contracts of `feed` and of the batch check cite. Document
-- 02, Three: "from a fresh carried state, each call given what the one before returned and left, its answer equals that of the whole batch
-- at once, for every way of cutting, with chunks of no dwords among them; earlier calls say 'more'".
use Rattle.std.specs.Prelude.{◌≡◌, ◌⊎◌, Bool, true, false, cond, List, [], ◌∷◌, ◌++◌, ℕ, ◌+◌, ◌/◌, ◌<◌, ◌≤◌, length, get_or, take, drop, leb}
use Rattle.chips.specs.declared.Target.{Target}
use Rattle.chips.specs.Chips.{target_of, on_chip, ForChip, Unnamed}
use Rattle.command.specs.Order.{Command}
use Rattle.record.specs.Record.{record_of}
use Rattle.reading.specs.Reading.{reading_of}
use Rattle.reading.specs.Vfes.{command_number}
use Rattle.records.specs.Records.{slot}
use Rattle.batch.specs.Answers.{refused_answer, answer_of, records_of}
use Rattle.progress.specs.Fitting.{written_fit}
use Rattle.feed.specs.declared.Carried.{Carried}
use Rattle.feed.specs.declared.Fed.{Fed}
use Rattle.feed.specs.Feeding.{fresh, Left, left, gives, Result, result_of, feed_of}

-- a call: what it is given beside the carried state and the record buffer
pub record Call : Type 0 where
  pub chip : ℕ
  pub capacity : ℕ
  pub chunk : List ℕ
  pub last : Bool

abbrev pub call : ℕ → ℕ → List ℕ → Bool → Call
call chip capacity chunk last = record { chip = chip; capacity = capacity; chunk = chunk; last = last }

-- "each call given what the one before returned and left"
abbrev pub made : Left → Call → Result
made w c = feed_of c.chip c.capacity w.carried c.chunk c.last w.records

abbrev pub leaves : Left → Call → Left
leaves w c = left (made w c).fed.carried (made w c).records

unfoldable pub leaves_all : Left → List Call → Left
leaves_all w [] = w
leaves_all w (c ∷ cs) = leaves_all (leaves w c) cs

-- "names one chip and capacity throughout": the calls for chunks of which none is the last
abbrev pub calls : ℕ → ℕ → List (List ℕ) → List Call
calls chip capacity [] = []
calls chip capacity (chunk ∷ chunks) = call chip capacity chunk false ∷ calls chip capacity chunks

-- "from a fresh carried state", with the record buffer r
abbrev pub before_last : ℕ → ℕ → List (List ℕ) → List ℕ → Left
before_last chip capacity chunks r = leaves_all (left fresh r) (calls chip capacity chunks)

-- the last call after those, and what it leaves
abbrev pub last_made : ℕ → ℕ → List (List ℕ) → List ℕ → List ℕ → Result
last_made chip capacity chunks last r = made (before_last chip capacity chunks r) (call chip capacity last true)

abbrev pub after_last : ℕ → ℕ → List (List ℕ) → List ℕ → List ℕ → Left
after_last chip capacity chunks last r = leaves (before_last chip capacity chunks r) (call chip capacity last true)

-- the batch that is cut so
abbrev pub joined : List (List ℕ) → List ℕ → List ℕ
joined [] last = last
joined (chunk ∷ chunks) last = chunk ++ joined chunks last

-- the commands "that end within the first" n dwords
abbrev pub end_within : ℕ → List Command → List Command
end_within n [] = []
end_within n (c ∷ cs) = cond (leb (c.place + c.total) n) (c ∷ end_within n cs) (end_within n cs)

-- "the commands passed that end within the first 16,384 dwords"
abbrev pub kept_in : Target → List ℕ → List Command
kept_in target b = end_within 16384 (reading_of target b).passed

-- the record buffer r with their records, "as many as fit", and "the rest untouched"; none where no chip is named
abbrev pub records_kept : ℕ → ℕ → List ℕ → List ℕ → List ℕ
records_kept chip capacity b r = on_chip (λ number place. r) (λ c. written_fit (kept_in (target_of c capacity) b) 0 r) chip

-- a record buffer word by word
pub record Words (cs : List Command) (r filled : List ℕ) : Type 0 where
  -- word f of the record of command i, where it fits
  pub record_at : (i f : ℕ) → i < length cs → i < length r / 16 → f < 16
      → get_or filled (slot i f) 0 ≡ get_or (record_of (command_number cs i)) f 0
  -- "the rest untouched": a word of no such record, or of one that does not fit
  pub untouched : (p : ℕ) → (p / 16 < length cs → p / 16 < length r / 16 → ⊥) → get_or filled p 0 ≡ get_or r p 0
  pub size : length filled ≡ length r

-- every way of cutting, with any last chunk
pub record Cut (chip capacity : ℕ) (chunks : List (List ℕ)) (last r : List ℕ) : Type 0 where
  -- "its answer equals that of the whole batch at once"
  pub says : (last_made chip capacity chunks last r).fed.more ≡ 0
  pub answer : (last_made chip capacity chunks last r).fed.answer ≡ answer_of chip capacity (joined chunks last) r
  -- "after a refusal they are those of the commands passed that end within the first 16,384 dwords, the rest untouched"
  pub records : (last_made chip capacity chunks last r).records ≡ records_kept chip capacity (joined chunks last) r
  pub words : ForChip chip
      (λ c. Words (kept_in (target_of c capacity) (joined chunks last)) r (last_made chip capacity chunks last r).records)
  pub unnamed : Unnamed chip → (last_made chip capacity chunks last r).records ≡ r
  -- "after acceptance they equal the whole batch's"
  pub accepted : (answer_of chip capacity (joined chunks last) r).number ≡ 0
      → (last_made chip capacity chunks last r).records ≡ records_of chip capacity (joined chunks last) r

-- "Only that call answers": each call before it says "more", where the numbers of an answer are 0, and leaves the records of the commands
-- complete so far.
pub record Earlier (chip capacity : ℕ) (chunks : List (List ℕ)) (chunk r : List ℕ) : Type 0 where
  pub says : (made (before_last chip capacity chunks r) (call chip capacity chunk false)).fed.more ≡ 1
  pub free : (made (before_last chip capacity chunks r) (call chip capacity chunk false)).fed.answer
      ≡ record { number = 0; place = 0; commands = 0; dwords = 0 }
  pub records : (made (before_last chip capacity chunks r) (call chip capacity chunk false)).records
      ≡ records_kept chip capacity (joined chunks chunk) r

-- the commands complete so far, whatever comes after the dwords b: those of the whole batch that end within them
abbrev pub Complete : Target → List ℕ → List ℕ → Type 0
Complete target b more = end_within (length b) (reading_of target (b ++ more)).passed ≡ (reading_of target b).passed

-- "19, a chunk offered after an answer was given": a call with this carried state, whatever else it is given, is refused with 19 at 0, and
-- changes neither the carried state nor the record buffer; and so does every call after it
abbrev pub Late : Carried → Type 0
Late c = (chip capacity : ℕ) (chunk : List ℕ) (last : Bool) (r : List ℕ)
    → feed_of chip capacity c chunk last r ≡ result_of (gives c (refused_answer 19 0)) r

-- what any call says, from whatever carried state: the last answers; 19 changes nothing; after an answer there is 19 alone
pub record Said (w : Left) (c : Call) : Type 0 where
  pub last : c.last ≡ true → (made w c).fed.more ≡ 0
  pub refused : (made w c).fed.answer.number ≡ 19 → made w c ≡ result_of (gives w.carried (refused_answer 19 0)) w.records
  pub late : (made w c).fed.more ≡ 0 → Late (made w c).fed.carried

-- calls of which none is the last
abbrev pub NotLast : List Call → Type 0
NotLast [] = Unit
NotLast (c ∷ cs) = (c.last ≡ false) × NotLast cs

-- Once a call has named no chip and was taken, the last one answers 18, whatever it and those between name: no part of a batch goes unread.
abbrev pub Unread : Left → Call → List Call → Call → Type 0
Unread w c between last =
    Unnamed c.chip → (made w c).fed.more ≡ 1 → NotLast between → last.last ≡ true
    → (made (leaves_all (leaves w c) between) last).fed.answer ≡ refused_answer 18 0

-- a call's answer has one of the papers' numbers, from whatever carried state
abbrev pub Numbered : Fed → Type 0
Numbered f = (f.answer.number ≤ 10) ⊎ ((f.answer.number ≡ 18) ⊎ (f.answer.number ≡ 19))

-- "for every such cutting of each of the two batches the last chunk's answer, the carried state aside, is the same, and the record buffer
-- ends the same, also after chunks refused with 19"
pub record SameCut (chip capacity : ℕ) (chunks chunks' : List (List ℕ)) (last last' r : List ℕ) (late late' : List Call) : Type 0 where
  pub says : (last_made chip capacity chunks last r).fed.more ≡ (last_made chip capacity chunks' last' r).fed.more
  pub answer : (last_made chip capacity chunks last r).fed.answer ≡ (last_made chip capacity chunks' last' r).fed.answer
  pub records : (leaves_all (after_last chip capacity chunks last r) late).records
      ≡ (leaves_all (after_last chip capacity chunks' last' r) late').records

-- A list of dwords cut into chunks of given lengths, and what is left, the last chunk.
abbrev pub cut_at : List ℕ → List ℕ → List (List ℕ)
cut_at [] b = []
cut_at (n ∷ ns) b = take n b ∷ cut_at ns (drop n b)

abbrev pub last_of : List ℕ → List ℕ → List ℕ
last_of [] b = b
last_of (n ∷ ns) b = last_of ns (drop n b)

abbrev pub lengths_of : List (List ℕ) → List ℕ
lengths_of [] = []
lengths_of (chunk ∷ chunks) = length chunk ∷ lengths_of chunks

-- the chunks of calls, and calls for one chip and capacity of which none is the last
abbrev pub chunks_of : List Call → List (List ℕ)
chunks_of [] = []
chunks_of (c ∷ cs) = c.chunk ∷ chunks_of cs

abbrev pub Throughout : ℕ → ℕ → List Call → Type 0
Throughout chip capacity [] = Unit
Throughout chip capacity (c ∷ cs) = (c ≡ call chip capacity c.chunk false) × Throughout chip capacity cs

-- The guards: the cuttings are all there are. Any list, cut at any places, is a cutting of it; every list of chunks with a last one is some
-- list cut so; and a call is made for each chunk.
pub record Guards : Type 0 where
  pub cut : (b lengths : List ℕ) → joined (cut_at lengths b) (last_of lengths b) ≡ b
  pub chunks : (chunks : List (List ℕ)) (last : List ℕ) → cut_at (lengths_of chunks) (joined chunks last) ≡ chunks
  pub last : (chunks : List (List ℕ)) (last : List ℕ) → last_of (lengths_of chunks) (joined chunks last) ≡ last
  pub each : (chip capacity : ℕ) (chunks : List (List ℕ)) → chunks_of (calls chip capacity chunks) ≡ chunks
  pub throughout : (chip capacity : ℕ) (chunks : List (List ℕ)) → Throughout chip capacity (calls chip capacity chunks)
  -- what `Unread` lets come between: any calls of which none is the last
  pub none_between : NotLast []
  pub one_more : (c : Call) (cs : List Call) → c.last ≡ false → NotLast cs → NotLast (c ∷ cs)
  -- which commands are complete is said of what has come: no dword that comes later changes it
  pub complete : (target : Target) (b more : List ℕ) → Complete target b more

pub record Chunked : Type 0 where
  pub cut : (chip capacity : ℕ) (chunks : List (List ℕ)) (last r : List ℕ) → Cut chip capacity chunks last r
  pub earlier : (chip capacity : ℕ) (chunks : List (List ℕ)) (chunk r : List ℕ) → Earlier chip capacity chunks chunk r
  pub said : (w : Left) (c : Call) → Said w c
  pub unread : (w : Left) (c : Call) (between : List Call) (last : Call) → Unread w c between last
  pub numbered : (w : Left) (c : Call) → Numbered (made w c).fed
  pub guards : Guards
