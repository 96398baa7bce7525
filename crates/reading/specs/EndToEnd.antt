-- The commands of a batch, laid end to end up to where reading stops: what is passed, of every batch. "A command is passed when neither it
-- nor an earlier one is faulty, whatever 1, 10 and 17 say; reading stops at END, a fault or the slice's end."
use Rattle.std.specs.Prelude.{◌≡◌, true, List, [], ◌∷◌, ℕ, ◌+◌, ◌≤◌, ◌<◌, length, get_or, drop}
use Rattle.chips.specs.declared.Target.{Target}
use Rattle.command.specs.Kinds.{has_gateway_state, kind_of, head_of}
use Rattle.command.specs.Order.{Command, state_of}
use Rattle.std.specs.Prelude.{Err}
use Rattle.chips.specs.Refusals.{number_of_refusal}
use Rattle.judge.specs.declared.Fault.{Fault}
use Rattle.judge.specs.Refusals.{Verdict, no_fault, judge_of}
use Rattle.reading.specs.Reading.{Stop, ended, stopped, command_at}

-- the command that b has at a place, after the commands cs, the nearest first; and the verdict on it, rows 3 to 9
abbrev pub command_in : Target → List ℕ → List Command → ℕ → Command
command_in target b cs at = let l = drop at b in command_at (kind_of target.chip (get_or l 0 0)) l at (state_of target cs)

abbrev pub verdict_in : Target → List ℕ → List Command → ℕ → Verdict
verdict_in target b cs at =
    let l = drop at b in let k = kind_of target.chip (get_or l 0 0) in judge_of k (length l) (head_of k l) (state_of target cs)

-- the command c stands in b at a place, whole, and without a fault
pub record Stands (target : Target) (b : List ℕ) (cs : List Command) (at : ℕ) (c : Command) : Type 0 where
  pub is : c ≡ command_in target b cs at
  pub faultless : verdict_in target b cs at ≡ no_fault
  pub whole : at + c.total ≤ length b
  -- one of the kinds of the chip's table
  pub known : c.kind < 9
  -- "MEDIA_GATEWAY_STATE on Gen7 stays 3"
  pub gateway_state : c.kind ≡ 8 → has_gateway_state target.chip ≡ true

-- From a place on, after the commands cs: the commands of a list stand one right after the other, and then reading stops.
pub data EndToEnd (target : Target) (b : List ℕ) : List Command → ℕ → List Command → Stop → Type 0 where
  -- 2: "slice used up before END (place: its length)"
  used_up : {cs : List Command} → EndToEnd target b cs (length b) [] (stopped 2 (length b))
  -- "The first faulty command decides": its verdict's number, and the place from its first dword on
  faulty : {cs : List Command} {at : ℕ} {f : Fault} → at < length b → verdict_in target b cs at ≡ Err f
      → EndToEnd target b cs at [] (stopped (number_of_refusal f.refusal) (at + f.skip))
  -- END is the last command
  last : {cs : List Command} {at : ℕ} {c : Command} → at < length b → Stands target b cs at c → c.kind ≡ 2
      → EndToEnd target b cs at (c ∷ []) (ended (at + 1))
  -- any other is followed by the next
  next : {cs : List Command} {at : ℕ} {c : Command} {rest : List Command} {stop : Stop} → at < length b → Stands target b cs at c
      → (c.kind ≡ 2 → ⊥) → EndToEnd target b (c ∷ cs) (at + c.total) rest stop → EndToEnd target b cs at (c ∷ rest) stop

-- a whole batch: from its first dword on, before any command
abbrev pub Laid : Target → List ℕ → List Command → Stop → Type 0
Laid target b cs stop = EndToEnd target b [] 0 cs stop
