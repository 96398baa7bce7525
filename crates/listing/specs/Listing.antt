-- The listing's text, for a chip: document 01, "The listing"; document 02, One, "A second listing program reads Gen6".
use Rattle.std.specs.Prelude.{cond, List, [], ◌∷◌, ◌++◌, ℕ, ltb, length, drop}
use Rattle.chips.specs.declared.Chip.{Chip}
use Rattle.chips.specs.Chips.{target_of}
use Rattle.words.specs.Dwords.{dwords_of}
use Rattle.command.specs.Order.{Command}
use Rattle.reading.specs.Reading.{Stop, ended, stopped, reading_of}
use Rattle.reading.specs.Decision.{part_dword, whole_dwords}
use Rattle.text.specs.Lines.{line_of, accepted_line, refused_line, mark_line}

-- a line to each command
unfoldable pub lines_of : List Command → List ℕ
lines_of [] = []
lines_of (c ∷ cs) = line_of c.place c.kind c.total ++ lines_of cs

-- the commands passed, by how reading stopped
abbrev pub read_text : List Command → Stop → List ℕ
read_text cs (ended dwords) = lines_of cs ++ accepted_line (length cs) dwords
read_text cs (stopped number place) = refused_line number place

-- "as little-endian dwords, capacity 2,048 rows"
unfoldable pub batch_text : Chip → List ℕ → List ℕ
batch_text c b = let r = reading_of (target_of c 2048) b in read_text r.passed r.stop

-- 17, of the input
abbrev pub odd_text : List ℕ → List ℕ
odd_text input = part_dword refused_line input

-- "reads at most 4,096 bytes (more: 1) .. (that test precedes 17)"
unfoldable pub text_of : Chip → List ℕ → List ℕ
text_of c input =
    mark_line
    ++ cond (ltb 4096 (length input)) (refused_line 1 0)
    (whole_dwords refused_line input (batch_text c (dwords_of input)))

-- the lent text buffer at exit: the text, then the buffer's bytes as they were
abbrev pub listed_in : Chip → List ℕ → List ℕ → List ℕ
listed_in c input text = text_of c input ++ drop (length (text_of c input)) text
