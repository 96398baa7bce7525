-- The replay: document 01, "Else gateways start closed, barriers empty with byte 0, counts zero; each event writes one outcome byte and the
-- replay goes on. Outcome bytes past the events stay. The answer holds the end gateways and barriers."
use Rattle.std.specs.Prelude.{ℕ, zero, suc, Bool, false, cond, List, eqb, length, get_or, set, replicate}
use Rattle.laws.specs.Filled.{filled}
use Rattle.event.specs.declared.Head.{Head}
use Rattle.event.specs.declared.Setup.{Setup}
use Rattle.event.specs.Decision.{Decision}
use Rattle.event.specs.Head.{head_of}
use Rattle.event.specs.Gateways.{closed, gateway_at}
use Rattle.event.specs.Outcomes.{decision_of, outcome_of}
use Rattle.event.specs.declared.Gateway.{Gateway}
use Rattle.gateway.specs.declared.Barrier.{Barrier}
use Rattle.gateway.specs.declared.Replayed.{Replayed}
use Rattle.recording.specs.Recording.{setup_of, events_of, event_at, refusal_of}
use Rattle.effects.specs.Effects.{gateways_after, bytes_after, waits_after, counts_after, forwarded, with_ack}
use Rattle.barriers.specs.Barriers.{waiting_of}

-- What an event leaves to the next: each thread's gateway, "open or closed, with base, size and key", each barrier's byte, and which
-- threads wait.
pub record State : Type 0 where
  pub gateways : List Gateway
  pub bytes : List ℕ
  pub waits : List Bool

-- What a decision d leaves of a state, and of the registers: "Last, a counted ack".
abbrev pub state_after : Decision → Setup → State → State
state_after d s w =
    record {
      gateways = gateways_after d w.gateways;
      bytes = bytes_after d w.bytes;
      waits = waits_after d s w.waits;
    }

abbrev pub registers_after : Head → Decision → List ℕ → List ℕ → List ℕ
registers_after h d ev rs = with_ack h (outcome_of d) (forwarded d ev rs)

-- All that an event meets, and all that it leaves.
pub record World : Type 0 where
  pub state : State
  pub registers : List ℕ
  pub counts : List ℕ
  pub outcomes : List ℕ

-- what the event ev does to a state
abbrev pub decision_in : Setup → List ℕ → State → Decision
decision_in s ev w = decision_of (head_of ev) s (gateway_at w.gateways (head_of ev).target) w.waits

-- event i, with bytes ev, and what a decision of it leaves
abbrev pub leaves : Setup → List ℕ → ℕ → World → Decision → World
leaves s ev i w d =
    record {
      state = state_after d s w.state;
      registers = registers_after (head_of ev) d ev w.registers;
      counts = counts_after d s w.counts;
      outcomes = set w.outcomes i (outcome_of d);
    }

unfoldable pub step_of : Setup → List ℕ → ℕ → World → World
step_of s ev i w = leaves s ev i w (decision_in s ev w.state)

-- after n events; each meets what the one before left
unfoldable pub run_of : List ℕ → Setup → ℕ → World → World
run_of rec s zero w = w
run_of rec s (suc n) w = step_of s (event_at rec n) n (run_of rec s n w)

-- "gateways start closed, barriers empty with byte 0"
abbrev pub start : State
start = record { gateways = replicate 16 closed; bytes = replicate 16 0; waits = replicate 16 false }

-- what the first event meets over these buffers
abbrev pub start_over : List ℕ → List ℕ → List ℕ → World
start_over registers counts outcomes = record { state = start; registers = registers; counts = counts; outcomes = outcomes }

-- "counts zero"; registers and outcomes as they were lent
abbrev pub begun : List ℕ → List ℕ → List ℕ → World
begun registers counts outcomes = start_over registers (replicate (length counts) 0) outcomes

-- "a barrier is its byte and who waits": bit t is set where thread t is of that group and waits
abbrev pub barrier_of : Setup → State → ℕ → Barrier
barrier_of s w b = record { byte = get_or w.bytes b 0; waiting = waiting_of s.threads s.groups b w.waits }

abbrev pub empty_barrier : Barrier
empty_barrier = record { byte = 0; waiting = 0 }

unfoldable pub barriers_of : Setup → State → List Barrier
barriers_of s w = filled (barrier_of s w) 16 (replicate 16 empty_barrier)

-- The answer, "every number returned": "The answer holds the end gateways and barriers"; a refusal's are closed and empty.
abbrev pub refused_answer : ℕ → Replayed
refused_answer number = record { number = number; gateways = replicate 16 closed; barriers = replicate 16 empty_barrier }

abbrev pub end_answer : Setup → State → Replayed
end_answer s w = record { number = 0; gateways = w.gateways; barriers = barriers_of s w }

-- The answer and what is lent, at exit.
pub record Replay : Type 0 where
  pub answer : Replayed
  pub registers : List ℕ
  pub counts : List ℕ
  pub outcomes : List ℕ

abbrev pub ended : Setup → World → Replay
ended s w = record { answer = end_answer s w.state; registers = w.registers; counts = w.counts; outcomes = w.outcomes }

unfoldable pub run_whole : List ℕ → List ℕ → List ℕ → List ℕ → World
run_whole rec registers counts outcomes = run_of rec (setup_of rec) (events_of rec) (begun registers counts outcomes)

-- "Whole recording refused .. nothing lent changed"
unfoldable pub replay_of : List ℕ → List ℕ → List ℕ → List ℕ → Replay
replay_of rec registers counts outcomes =
    cond (eqb (refusal_of rec (length registers) (length counts) (length outcomes)) 0)
    (ended (setup_of rec) (run_whole rec registers counts outcomes))
    (record {
      answer = refused_answer (refusal_of rec (length registers) (length counts) (length outcomes));
      registers = registers;
      counts = counts;
      outcomes = outcomes;
    })
