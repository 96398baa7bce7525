-- What document 02's Two takes away from what passed before: nothing. A batch that passed by the rule before it, that no command of the
-- kinds "stands since the last MI_FLUSH or the start" before a VFE, passes still, and is read alike: so answer, records and all else are
-- the same. That no other verdict changed is `one_row` of judge/specs/Flushes.antt.
use Rattle.std.specs.Prelude.{◌≡◌, false, List, [], ◌∷◌, ℕ, ◌+◌, ◌<◌, length, get_or, drop}
use Rattle.chips.specs.declared.Target.{Target}
use Rattle.command.specs.Kinds.{kind_of, head_of}
use Rattle.command.specs.Order.{Command, media_since_flush, NoStateFlush, state_of}
use Rattle.judge.specs.Refusals.{Verdict, no_fault, judge_by_full_flush}
use Rattle.reading.specs.Reading.{ended, reading, reading_of}
use Rattle.reading.specs.EndToEnd.{command_in}

-- the verdict by that rule on the command that b has at a place, after the commands cs, the nearest first
abbrev pub verdict_by_full_flush : Target → List ℕ → List Command → ℕ → Verdict
verdict_by_full_flush target b cs at =
    let l = drop at b in let k = kind_of target.chip (get_or l 0 0) in judge_by_full_flush k (length l) (head_of k l) (state_of target cs)

-- From a place on, after the commands cs: the commands of a list, each without a fault by that rule, one right after the other up to END.
-- The number counts the dwords up to there.
pub data PassedByFullFlush (target : Target) (b : List ℕ) : List Command → ℕ → List Command → ℕ → Type 0 where
  last : {cs : List Command} {at : ℕ} → at < length b → verdict_by_full_flush target b cs at ≡ no_fault → (command_in target b cs at).kind ≡ 2
      → PassedByFullFlush target b cs at (command_in target b cs at ∷ []) (at + 1)
  next : {cs : List Command} {at d : ℕ} {rest : List Command} → at < length b → verdict_by_full_flush target b cs at ≡ no_fault
      → ((command_in target b cs at).kind ≡ 2 → ⊥)
      → PassedByFullFlush target b (command_in target b cs at ∷ cs) (at + (command_in target b cs at).total) rest d
      → PassedByFullFlush target b cs at (command_in target b cs at ∷ rest) d

-- before each VFE of a list nothing of the kinds stands since the last MI_FLUSH or the start
abbrev pub FullyFlushed : List Command → List Command → Type 0
FullyFlushed cs [] = Unit
FullyFlushed cs (c ∷ rest) = (c.kind ≡ 3 → media_since_flush cs ≡ false) × FullyFlushed (c ∷ cs) rest

pub record NothingLost : Type 0 where
  pub still : (target : Target) (b : List ℕ) (cs : List Command) (d : ℕ) → PassedByFullFlush target b [] 0 cs d
      → reading_of target b ≡ reading cs (ended d)
  -- and of the batches that pass, those passed before, and no others, that have each VFE fully flushed
  pub flushed : (target : Target) (b : List ℕ) (cs : List Command) (d : ℕ) → PassedByFullFlush target b [] 0 cs d → FullyFlushed [] cs
  pub others : (target : Target) (b : List ℕ) (cs : List Command) (d : ℕ) → reading_of target b ≡ reading cs (ended d) → FullyFlushed [] cs
      → PassedByFullFlush target b [] 0 cs d
  -- without a state flush the rule is what it was: what passes so passed before, whatever else it holds
  pub unchanged : (target : Target) (b : List ℕ) (cs : List Command) (d : ℕ) → reading_of target b ≡ reading cs (ended d) → NoStateFlush cs
      → PassedByFullFlush target b [] 0 cs d
