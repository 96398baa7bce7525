-- What the code keeps while it reads a chunk: from each dword on, what is left to read leaves what the whole chunk leaves.
use Rattle.std.specs.Prelude.{◌≡◌, true, List, ℕ, ◌+◌, ◌-◌, ◌<◌, ◌≤◌, length, get_or, drop, Option, Some, None}
use Rattle.chips.specs.declared.Chip.{Chip}
use Rattle.command.specs.declared.State.{State}
use Rattle.command.specs.Kinds.{kind_of, total_of, head_of}
use Rattle.judge.specs.Refusals.{no_fault, header_verdict, own_verdict}
use Rattle.reading.specs.Turns.{stands_at}
use Rattle.progress.specs.declared.Progress.{Progress}
use Rattle.progress.specs.Steps.{kind_in, between, Stage, stage, stage_after}
use Rattle.progress.specs.Parts.{dwords_left}
use Rattle.progress.specs.Sound.{Sound}
use Rattle.chunks.specs.declared.Reached.{Reached}

-- the dwords l, all among the first 16,384 of the batch, can be read from dword i on
pub record Ready (l : List ℕ) (i : ℕ) (c : Progress) : Type 0 where
  pub inside : i ≤ length l
  pub few : length l ≤ 16384
  pub sound : Sound (16384 - length l + i) c

-- what the dwords from i on leave
abbrev pub leaves_from : List ℕ → ℕ → Progress → List ℕ → Stage
leaves_from l i c r = stage_after (stage c r) (drop i l)

-- from dword j on what is left leaves what it did from dword i on
pub record Kept (l : List ℕ) (c : Progress) (i : ℕ) (r : List ℕ) (c' : Progress) (j : ℕ) (r' : List ℕ) : Type 0 where
  pub forth : i ≤ j
  pub ready : Ready l j c'
  pub leaves : leaves_from l j c' r' ≡ leaves_from l i c r

-- the same, with a dword read at least
pub record Went (l : List ℕ) (c : Progress) (i : ℕ) (r : List ℕ) (c' : Progress) (j : ℕ) (r' : List ℕ) : Type 0 where
  pub on : i < j
  pub kept : Kept l c i r c' j r'

-- Some commands from dword i on lead to where reading goes on, between two; or none is known to pass, and nothing has changed.
abbrev pub LedOn : List ℕ → Progress → ℕ → List ℕ → Option Reached → List ℕ → Type 0
LedOn l c i r None r' = r' ≡ r
LedOn l c i r (Some x) r' = Went l c i r (between x.st x.at) x.next r'

-- the command at dword i starts with the dword d, is of kind k in the chip's table, and passes rows 3 and 4
pub record Begins (c : Chip) (l : List ℕ) (i k d : ℕ) : Type 0 where
  pub first : d ≡ get_or l i 0
  pub kind : k ≡ kind_of c d
  pub allowed : header_verdict k d (total_of k d) ≡ no_fault

-- from dword i to dword j stand OBJECTs of t dwords each with the first dword d, which pass after what st says
pub data Objects (l : List ℕ) (st : State) (t d : ℕ) : ℕ → ℕ → Type 0 where
  no_more : {i : ℕ} → Objects l st t d i i
  one_more : {i j : ℕ} → stands_at l i t d ≡ true → own_verdict 7 (head_of 7 (drop i l)) st ≡ no_fault → Objects l st t d (i + t) j
      → Objects l st t d i j

-- the last dwords of the OBJECT that is not whole are so many of the chunk, from dword i on
pub record Completes (l : List ℕ) (i : ℕ) (c : Progress) (t left : ℕ) : Type 0 where
  pub goes : c.stop ≡ 0
  pub begun : c.got ≡ 0 → ⊥
  pub kind : 7 ≡ kind_in c.st c.own
  pub total : t ≡ total_of 7 (get_or c.own 0 0)
  pub last : left ≡ dwords_left t c.got
  pub there : left ≤ length l - i
