-- The loop over the events: what it keeps, and a turn of it. Assumes nothing.
use mathlib.Core.Path.{◌≡◌, refl, sym, ap, ap₂, ◌∙◌}
use mathlib.Core.List.{List}
use Prim.Native.Nat.{ℕ, ◌+◌, ◌*◌, ◌-◌, ◌≤◌, ◌<◌}
use native.Mathlib.Nat.{add-sub_cancel_left}
use native.Mathlib.Numerals.{add-one}
use native.Mathlib.Omega.{arith}
use lib.ListN.{length, get_or, set, take, drop, replicate, length-set, length-take, length-drop}
use Rattle.laws.proofs.Filled.{filled_same}
use Rattle.event.specs.declared.Setup.{Setup}
use Rattle.event.specs.Groups.{Grouped}
use Rattle.effects.specs.Gateways.{gateways_in}
use Rattle.effects.specs.Releases.{counts_in}
use Rattle.effects.proofs.ReleaseLaws.{no_releases}
use Rattle.effects.proofs.GatewayWords.{none_open}
use Rattle.barriers.specs.Barriers.{waiting_of, waiting_in, waits_in}
use Rattle.barriers.proofs.MemberMasks.{mask_at}
use Rattle.barriers.proofs.Waits.{none_yet, nobody, replicated}
use Rattle.recording.specs.Recording.{threads_of, event_at}
use Rattle.gateway.specs.declared.Barrier.{Barrier}
use Rattle.gateway.specs.declared.Replayed.{Replayed}
use Rattle.gateway.specs.Replay.{State, World, step_of, run_of, start_over, barrier_of, empty_barrier, barriers_of, Replay, ended}
use Rattle.gateway.specs.Steps.{Held, held, state_in, world_in, Stepped, Ran, barriers_from, answer_from}

-- what is kept stands for the world after a step, where it stood for the world before
stepped_world : (s : Setup) (ev os : List ℕ) (i : ℕ) {o : ℕ} {k k' : Held} → Stepped s ev o k k' → world_in s k' (set os i o) ≡ step_of s ev i (world_in s k os)
unfolding step_of
stepped_world s ev os i e = λ j.
    record { state = e.its_state j; registers = e.its_registers j; counts = e.its_counts j; outcomes = set os i (e.its_outcome j) }

-- what the loop keeps after i events
pub record AtEvent (rec : List ℕ) (s : Setup) (events : ℕ) (w₀ : World) (k : Held) (os : List ℕ) (i : ℕ) : Type 0 where
  pub most : i ≤ events
  pub so_far : world_in s k os ≡ run_of rec s i w₀
  pub masks : k.waiting ≡ waiting_in s (waits_in s k.waiting)
  pub registers_long : length k.registers ≡ length w₀.registers
  pub outcomes_long : length os ≡ length w₀.outcomes
  pub all_gateways : length k.gateways ≡ 64
  pub all_bytes : length k.bytes ≡ 16

pub at_start : (rec : List ℕ) (s : Setup) (events : ℕ) (rs cs os : List ℕ) → Grouped s
    → AtEvent rec s events (start_over rs cs os) (held (replicate 64 0) (replicate 16 0) (replicate 16 0) rs (counts_in s (replicate 16 0) cs)) os 0
unfolding run_of
at_start rec s events rs cs os g =
    let none : counts_in s (replicate 16 0) cs ≡ cs = no_releases s.groups (replicate 16 0) cs (replicated 0 16) s.threads in
    record {
      most = omega arith;
      so_far = λ j. record { state = record { gateways = none_open j; bytes = replicate 16 0; waits = nobody s g j }; registers = rs; counts = none j; outcomes = os };
      masks = none_yet s ∙ ap (waiting_in s) (sym (nobody s g));
      registers_long = refl;
      outcomes_long = refl;
      all_gateways = refl;
      all_bytes = refl;
    }

pub step_turn : (rec : List ℕ) (s : Setup) (events : ℕ) (w₀ : World) {k : Held} {gws' ms' bs' rs' cs' os : List ℕ} {i o : ℕ} (ev : List ℕ) → AtEvent rec s events w₀ k os i → i < events
    → ev ≡ event_at rec i → Stepped s ev o k (held gws' ms' bs' rs' cs')
    → length gws' ≡ length k.gateways → length bs' ≡ length k.bytes → length rs' ≡ length k.registers
    → AtEvent rec s events w₀ (held gws' ms' bs' rs' cs') (set os i o) (i + 1)
unfolding run_of
step_turn rec s events w₀ {os = os} {i = i} {o = o} ev now more event e lg lb lr =
    record {
      most = omega arith;
      so_far =
          stepped_world s ev os i e
          ∙ ap₂ (λ (v : List ℕ) (w : World). step_of s v i w) event now.so_far
          ∙ ap (λ (n : ℕ). run_of rec s n w₀) (sym (add-one i));
      masks = e.its_masks;
      registers_long = lr ∙ now.registers_long;
      outcomes_long = length-set os i o ∙ now.outcomes_long;
      all_gateways = lg ∙ now.all_gateways;
      all_bytes = lb ∙ now.all_bytes;
    }

-- the part of the recording that a turn lends is the event
pub part_is : (rec : List ℕ) (t i : ℕ) → t ≡ threads_of rec → take (10 + t + 48 * i + 48 - (10 + t + 48 * i)) (drop (10 + t + 48 * i) rec) ≡ event_at rec i
part_is rec t i e =
    ap (λ (k : ℕ). take k (drop (10 + t + 48 * i) rec)) (add-sub_cancel_left (10 + t + 48 * i) 48)
    ∙ ap (λ (k : ℕ). take 48 (drop (10 + k + 48 * i) rec)) e

pub part_long : (rec : List ℕ) (a : ℕ) → a + 48 ≤ length rec → length (take (a + 48 - a) (drop a rec)) ≡ 48
part_long rec a h = simp (length-take, length-drop) (omega arith)

-- barrier b's byte and who waits at it
abbrev pub joined : List ℕ → List ℕ → ℕ → Barrier
joined bytes waiting b = record { byte = get_or bytes b 0; waiting = get_or waiting b 0 }

-- the barriers of the answer are made of bytes and masks
barriers_are : (s : Setup) (w : State) → barriers_from w.bytes (waiting_in s w.waits) ≡ barriers_of s w
unfolding barriers_from barriers_of
barriers_are s w =
    filled_same (λ b. record { byte = get_or w.bytes b 0; waiting = get_or (waiting_in s w.waits) b 0 }) (barrier_of s w) (replicate 16 empty_barrier) 16
    (λ b h j. record { byte = get_or w.bytes b 0; waiting = mask_at (λ c. waiting_of s.threads s.groups c w.waits) b h j })

-- the answer, and what is lent, of what a run leaves
pub kept_ended : (rec : List ℕ) (s : Setup) (events : ℕ) (registers counts outcomes : List ℕ) (k : Held) (os : List ℕ) {r : Replayed}
    → Ran rec s events registers counts outcomes k os → r ≡ answer_from k.gateways k.bytes k.waiting
    → ◌≡◌ {A = Replay} (record { answer = r; registers = k.registers; counts = k.counts; outcomes = os }) (ended s (run_of rec s events (start_over registers counts outcomes)))
kept_ended rec s events registers counts outcomes k os e a =
    (λ j. record { answer = a j; registers = k.registers; counts = k.counts; outcomes = os })
    ∙ (λ j. record {
      answer =
          record {
            number = 0;
            gateways = gateways_in k.gateways;
            barriers = (ap (barriers_from k.bytes) e.its_masks ∙ barriers_are s (state_in s k)) j;
          };
      registers = k.registers;
      counts = k.counts;
      outcomes = os;
    })
    ∙ ap (ended s) e.its_world
