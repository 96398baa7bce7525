-- Whether a batch is taken, once it is read: document 01, "Why a batch is turned away", 1, 10 and 17.
use Rattle.std.specs.Prelude.{ℕ, ◌*◌, ◌/◌, ◌%◌, cond, List, length, ltb, eqb, Result, Ok, Err}
use Rattle.chips.specs.declared.Target.{Target}
use Rattle.command.specs.Order.{object_count}
use Rattle.chips.specs.Refusals.{number_of_refusal}
use Rattle.reading.specs.declared.Extent.{Extent}
use Rattle.reading.specs.declared.Refused.{Refused}
use Rattle.reading.specs.Reading.{Stop, ended, stopped, reading_of}

-- One decision for all that a check gives back: what a refusal (number and place) or success (commands and dwords read) means is the
-- argument. So the answer and each buffer go by the same rules.
module _ {A : Type 0} (refused : ℕ → ℕ → A) (accepted : ℕ → ℕ → A) where
  -- 2 to 9 as the reading says. 10: "all commands pass, but the record buffer has fewer than 16 words per command (place: dwords read)";
  -- room is the record buffer's words. "Success returns commands and dwords read, END included".
  abbrev pub at_stop : ℕ → ℕ → Stop → A
  at_stop room commands (stopped m p) = refused m p
  at_stop room commands (ended d) = cond (ltb room (16 * commands)) (refused 10 d) (accepted commands d)

  -- 1: "over 16,384 dwords (place 0)": the whole slice, before any command is read
  abbrev pub at_limit : ℕ → ℕ → ℕ → Stop → A
  at_limit dwords room commands stop = cond (ltb 16384 dwords) (refused 1 0) (at_stop room commands stop)

  unfoldable pub decided : Target → ℕ → List ℕ → A
  decided target room b = at_limit (length b) room (length (reading_of target b).passed) (reading_of target b).stop

-- 17, "byte entry only: batch, then run, not a multiple of 4 bytes; checked first (place: its whole dwords)": what the refusal means is the
-- argument, as above.
abbrev pub part_dword : {A : Type 0} → (ℕ → ℕ → A) → List ℕ → A
part_dword refused bytes = refused 17 (length bytes / 4)

-- what is given back for bytes that are whole dwords, else the refusal
abbrev pub whole_dwords : {A : Type 0} → (ℕ → ℕ → A) → List ℕ → A → A
whole_dwords refused bytes given = cond (eqb (length bytes % 4) 0) given (part_dword refused bytes)

-- What is found before anything is written: a refusal's number and place, or how many commands, dwords and objects an accepted batch has.
pub data Scanned : Type 0 where
  Stopped : ℕ → ℕ → Scanned
  Ended : ℕ → ℕ → ℕ → Scanned

-- the same as the code answers it: the number of each refusal, and what a batch has
abbrev pub found : Result Extent Refused → Scanned
found (Err r) = Stopped (number_of_refusal r.refusal) r.place
found (Ok e) = Ended e.commands e.dwords e.objects

-- what the first pass finds, 1 and 10 aside: a batch read to its end has so many commands n, and so many objects o
abbrev pub scanned : ℕ → ℕ → Stop → Scanned
scanned n o (ended d) = Ended n d o
scanned n o (stopped m p) = Stopped m p

unfoldable pub scan_of : Target → List ℕ → Scanned
scan_of target b = let cs = (reading_of target b).passed in scanned (length cs) (object_count cs) (reading_of target b).stop

-- the whole decision, with what an accepted batch has
abbrev pub decision_of : Target → ℕ → List ℕ → Scanned
decision_of target room b = decided Stopped (λ c d. Ended c d (object_count (reading_of target b).passed)) target room b
