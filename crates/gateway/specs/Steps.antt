-- What the code keeps from event to event, and the world of the rules (specs/Replay.antt) that it stands for.
use Rattle.std.specs.Prelude.{◌≡◌, ℕ, ◌+◌, ◌*◌, ◌≤◌, ◌<◌, List, length, get_or, replicate}
use Rattle.laws.specs.Filled.{filled}
use Rattle.event.specs.declared.Setup.{Setup}
use Rattle.event.specs.Head.{head_of}
use Rattle.event.specs.Gateways.{gateway_at, Window}
use Rattle.event.specs.Groups.{Grouped}
use Rattle.event.specs.Outcomes.{outcome_of}
use Rattle.effects.specs.Effects.{counts_after, CountRoom}
use Rattle.effects.specs.Gateways.{gateways_in}
use Rattle.barriers.specs.Barriers.{waiting_in, waits_in, BarrierRoom}
use Rattle.recording.specs.Recording.{threads_of}
use Rattle.gateway.specs.declared.Barrier.{Barrier}
use Rattle.gateway.specs.declared.Replayed.{Replayed}
use Rattle.gateway.specs.Replay.{State, state_after, registers_after, World, decision_in, run_of, start_over, empty_barrier}

-- the gateways, four words a thread; who waits, a mask for each barrier; the barriers' bytes; the lent registers; and the counts, those
-- lent with the releases that are still to be added to them (`counts_in`)
pub record Held : Type 0 where
  pub gateways : List ℕ
  pub waiting : List ℕ
  pub bytes : List ℕ
  pub registers : List ℕ
  pub counts : List ℕ

abbrev pub held : List ℕ → List ℕ → List ℕ → List ℕ → List ℕ → Held
held gateways waiting bytes registers counts =
    record { gateways = gateways; waiting = waiting; bytes = bytes; registers = registers; counts = counts }

abbrev pub state_in : Setup → Held → State
state_in s k = record { gateways = gateways_in k.gateways; bytes = k.bytes; waits = waits_in s k.waiting }

abbrev pub world_in : Setup → Held → List ℕ → World
world_in s k outcomes = record { state = state_in s k; registers = k.registers; counts = k.counts; outcomes = outcomes }

-- ---- one event

-- What the step needs: an event of 48 bytes, sixteen gateways with their windows in the registers, and the rest as a barrier's message
-- needs it.
pub record StepRoom (s : Setup) (ev groups members releases : List ℕ) (k : Held) : Type 0 where
  pub event : length ev ≡ 48
  pub four : length k.gateways ≡ 64
  pub windows : (t : ℕ) → Window (gateway_at (gateways_in k.gateways) t)
  pub rest : BarrierRoom s groups members k.waiting k.bytes k.registers releases
  pub room : CountRoom s k.counts

-- What the step leaves of an event: its outcome, and what is kept then (k') by what was kept before, as the event's decision says.
pub record Stepped (s : Setup) (ev : List ℕ) (outcome : ℕ) (k k' : Held) : Type 0 where
  pub its_outcome : outcome ≡ outcome_of (decision_in s ev (state_in s k))
  pub its_state : state_in s k' ≡ state_after (decision_in s ev (state_in s k)) s (state_in s k)
  pub its_registers : k'.registers ≡ registers_after (head_of ev) (decision_in s ev (state_in s k)) ev k.registers
  pub its_counts : k'.counts ≡ counts_after (decision_in s ev (state_in s k)) s k.counts
  pub its_masks : k'.waiting ≡ waiting_in s (waits_in s k'.waiting)

-- ---- the events of a recording

-- What a run needs: a recording whose events fill it, and lent buffers as row 16 leaves them, with the counts cleared.
pub record Running (rec : List ℕ) (s : Setup) (events : ℕ) (registers counts outcomes : List ℕ) : Type 0 where
  pub grouped : Grouped s
  pub same : s.threads ≡ threads_of rec
  pub whole : length rec ≡ 10 + s.threads + 48 * events
  pub most : events < 65536
  pub own : length registers ≡ 4096 * s.threads
  pub two : length counts ≡ 2 * s.threads
  pub clear : (k : ℕ) → get_or counts k 0 ≡ 0
  pub room : events ≤ length outcomes

-- What a run leaves: what is kept then, with the outcomes, stands for the world after the events.
pub record Ran (rec : List ℕ) (s : Setup) (events : ℕ) (registers counts outcomes : List ℕ) (k : Held) (outcomes' : List ℕ) : Type 0 where
  pub its_world : world_in s k outcomes' ≡ run_of rec s events (start_over registers counts outcomes)
  pub its_masks : k.waiting ≡ waiting_in s (waits_in s k.waiting)

-- ---- the answer

-- the barriers of bytes and masks
unfoldable pub barriers_from : List ℕ → List ℕ → List Barrier
barriers_from bytes waiting = filled (λ b. record { byte = get_or bytes b 0; waiting = get_or waiting b 0 }) 16 (replicate 16 empty_barrier)

-- a replay that went to its end
abbrev pub answer_from : List ℕ → List ℕ → List ℕ → Replayed
answer_from gateways bytes waiting = record { number = 0; gateways = gateways_in gateways; barriers = barriers_from bytes waiting }
