-- What is claimed of every replay, beside what it is: sums, counted from the events' own bytes, the outcomes and the state that each event
-- met, and never from the counts; and what each event leaves. Document 01: "The N0 counts of all threads add up to the accepted forwards
-- with notify 1 plus the group size for each release"; "a nonzero outcome changes nothing else".
use Rattle.std.specs.Prelude.{◌≡◌, Bool, true, false, cond, ◌&&◌, ◌⊎◌, List, ℕ, zero, suc, ◌+◌, ◌/◌, ◌%◌, ◌^◌, ◌≤◌, ◌<◌, eqb, length, get_or, set}
use Rattle.event.specs.declared.Head.{Head}
use Rattle.event.specs.declared.Setup.{Setup}
use Rattle.event.specs.Head.{head_of}
use Rattle.event.specs.Codes.{count_of}
use Rattle.event.specs.declared.Gateway.{Gateway}
use Rattle.event.specs.Gateways.{closed, opened, gateway_at}
use Rattle.event.specs.Groups.{no_group, group_of, waits_of, whole_of, group_size, own_group, whole_with}
use Rattle.event.specs.Outcomes.{is_forward, is_barrier, ends, forward_start}
use Rattle.event.specs.Within.{OwnBytes}
use Rattle.recording.specs.Recording.{threads_of, events_of, setup_of, event_at, refusal_of}
use Rattle.effects.specs.Effects.{Written, n0, n2, notified, group_notified, ack_place, with_ack}
use Rattle.gateway.specs.Replay.{State, World, barrier_of, run_of, step_of, begun, Replay, ended, refused_answer, replay_of}

-- ---- counts

-- the counts at the places of the first n threads, added up: N0 by `n0`, N2 by `n2`
unfoldable pub total_of : (ℕ → ℕ) → ℕ → List ℕ → ℕ
total_of place zero cs = 0
total_of place (suc n) cs = total_of place n cs + get_or cs (place n) 0

-- an accepted forward with notify m counts one
unfoldable pub notification : ℕ → Head → ℕ → ℕ
notification m h outcome = cond (eqb outcome 0 && (is_forward h.kind && eqb h.notify m)) 1 0

-- an accepted barrier message that makes its sender's group wait whole counts the group's size: a release
unfoldable pub release_size : Setup → Head → ℕ → List Bool → ℕ
release_size s h outcome waits =
    cond (eqb outcome 0 && (is_barrier h.kind && whole_with h s waits)) (group_size s (own_group h s)) 0

-- The first n events of a recording whose outcomes are outs, from the world w.
module _ (rec : List ℕ) (s : Setup) (outs : List ℕ) (w : World) where
  unfoldable pub notifications : ℕ → ℕ → ℕ
  notifications m zero = 0
  notifications m (suc n) = notifications m n + notification m (head_of (event_at rec n)) (get_or outs n 0)

  unfoldable pub release_sizes : ℕ → ℕ
  release_sizes zero = 0
  release_sizes (suc n) = release_sizes n + release_size s (head_of (event_at rec n)) (get_or outs n 0) (run_of rec s n w).state.waits

-- After n of the events, outs being the outcomes that they end with.
pub record Counted (rec : List ℕ) (s : Setup) (outs : List ℕ) (n : ℕ) (w : World) : Type 0 where
  pub n0s : total_of n0 s.threads (run_of rec s n w).counts ≡ notifications rec s outs w 1 n + release_sizes rec s outs w n
  pub n2s : total_of n2 s.threads (run_of rec s n w).counts ≡ notifications rec s outs w 2 n

-- ---- an event whose outcome is not 0

-- It leaves what it met, but for its outcome byte and the acknowledgement's four bytes.
pub record Unchanged (s : Setup) (ev : List ℕ) (i outcome : ℕ) (w : World) : Type 0 where
  pub state : (step_of s ev i w).state ≡ w.state
  pub counts : (step_of s ev i w).counts ≡ w.counts
  pub outcomes : (step_of s ev i w).outcomes ≡ set w.outcomes i outcome
  pub registers : (step_of s ev i w).registers ≡ with_ack (head_of ev) outcome w.registers
  pub elsewhere : (p : ℕ) → (ack_place (head_of ev) ≤ p → p < ack_place (head_of ev) + 4 → ⊥)
      → get_or (step_of s ev i w).registers p 0 ≡ get_or w.registers p 0

-- ---- an accepted forward

-- the first of the bytes that a forward writes, by the recipient's gateway as the event met it
abbrev pub forward_place : Setup → Head → State → ℕ
forward_place s h w = forward_start h s (gateway_at w.gateways h.target)

-- ---- barriers

-- bit t of the mask of those who wait at barrier b
abbrev pub waits_at : Setup → State → ℕ → ℕ → ℕ
waits_at s w b t = (barrier_of s w b).waiting / 2 ^ t % 2

-- Whoever waits at a barrier is a member of its group, and no group waits whole.
pub record SoundBarriers (s : Setup) (w : State) : Type 0 where
  pub threads : (t : ℕ) → waits_of w.waits t ≡ true → t < s.threads
  pub members : (t : ℕ) → waits_of w.waits t ≡ true → group_of s.groups t ≡ no_group → ⊥
  pub none_whole : (t : ℕ) → t < s.threads → (group_of s.groups t ≡ no_group → ⊥)
      → whole_of s (group_of s.groups t) w.waits ≡ false
  -- a barrier shows who waits at it: members of its group, and each of those who wait
  pub at_barrier : (b t : ℕ) → t < s.threads → waits_at s w b t ≡ 1 → group_of s.groups t ≡ b
  pub shown : (t : ℕ) → t < s.threads → eqb (waits_at s w (group_of s.groups t) t) 1 ≡ waits_of w.waits t

-- no member of a group waits
abbrev pub NoneWaits : Setup → ℕ → State → Type 0
NoneWaits s g w = (t : ℕ) → t < s.threads → group_of s.groups t ≡ g → waits_of w.waits t ≡ false

-- who is of no group, or of another, waits as before
abbrev pub Spared : Setup → ℕ → State → State → Type 0
Spared s g w w' = (t : ℕ) → (group_of s.groups t ≡ g → ⊥) → waits_of w'.waits t ≡ waits_of w.waits t

-- ---- a recording that is not refused

module _ (rec registers counts outcomes : List ℕ) where
  -- the end, and what event n meets: event 0 what was lent, with the counts cleared, and each other what the one before left
  abbrev pub end : Replay
  end = replay_of rec registers counts outcomes

  abbrev pub met : ℕ → World
  met n = run_of rec (setup_of rec) n (begun registers counts outcomes)

  abbrev pub head_at : ℕ → Head
  head_at n = head_of (event_at rec n)

  abbrev pub outcome_at : ℕ → ℕ
  outcome_at n = get_or end.outcomes n 0

  -- where event n, a forward, writes, and how many bytes
  abbrev pub place_at : ℕ → ℕ
  place_at n = forward_place (setup_of rec) (head_at n) (met n).state

  abbrev pub count_at : ℕ → ℕ
  count_at n = count_of (head_at n).code

  -- it wrote its bytes, which are its recipient's, and then its acknowledgement
  pub record Forwarded (n : ℕ) : Type 0 where
    pub recipients : OwnBytes (head_at n).target (place_at n) (count_at n)
    pub bytes : List ℕ
    pub written : Written (place_at n) (count_at n) (event_at rec n) (met n).registers bytes
    pub then : (met (suc n)).registers ≡ with_ack (head_at n) 0 bytes

  -- event n leaves a state, the counts as it met them, and in the registers nothing but its acknowledgement
  pub record Leaves (n : ℕ) (left : State) : Type 0 where
    pub its_state : (met (suc n)).state ≡ left
    pub its_counts : (met (suc n)).counts ≡ (met n).counts
    pub its_registers : (met (suc n)).registers ≡ with_ack (head_at n) 0 (met n).registers

  -- the state that event n met, with the sender's gateway as given
  abbrev pub with_gateway : ℕ → Gateway → State
  with_gateway n gateway =
      let w = (met n).state in
      record { gateways = set w.gateways (head_at n).sender gateway; bytes = w.bytes; waits = w.waits }

  -- and with the byte of the update's barrier as the update gives it
  abbrev pub with_byte : ℕ → State
  with_byte n =
      let w = (met n).state in
      record { gateways = w.gateways; bytes = set w.bytes (head_at n).target (head_at n).code; waits = w.waits }

  -- event n, a barrier message, makes its group wait whole or not
  pub record Arrived (n : ℕ) (whole : Bool) : Type 0 where
    pub its_gateways : (met (suc n)).state.gateways ≡ (met n).state.gateways
    pub its_bytes : (met (suc n)).state.bytes ≡ (met n).state.bytes
    pub its_registers : (met (suc n)).registers ≡ with_ack (head_at n) 0 (met n).registers
    pub its_counts : (met (suc n)).counts
        ≡ cond whole (group_notified (threads_of rec) (setup_of rec).groups (own_group (head_at n) (setup_of rec)) (met n).counts)
        (met n).counts

  -- Sorts of event, each named once: the claims below speak of them, and `either` and `served` say that there is no other. An event with a
  -- nonzero outcome, and one with outcome 0:
  abbrev pub Refused : ℕ → Type 0
  Refused n = (n < events_of rec) × (outcome_at n ≡ 0 → ⊥)

  abbrev pub Accepted : ℕ → Type 0
  Accepted n = (n < events_of rec) × (outcome_at n ≡ 0)

  -- by kind, and an open with or without end-of-thread
  abbrev pub Opens : ℕ → Type 0
  Opens n = ((head_at n).kind ≡ 0) × (ends (head_at n) ≡ false)

  abbrev pub EndsThread : ℕ → Type 0
  EndsThread n = ((head_at n).kind ≡ 0) × (ends (head_at n) ≡ true)

  abbrev pub Closes : ℕ → Type 0
  Closes n = (head_at n).kind ≡ 1

  abbrev pub Forwards : ℕ → Type 0
  Forwards n = (head_at n).kind ≡ 2

  abbrev pub Arrives : ℕ → Type 0
  Arrives n = (head_at n).kind ≡ 4

  abbrev pub Updates : ℕ → Type 0
  Updates n = (head_at n).kind ≡ 5

  pub record Claims : Type 0 where
    -- every event is refused or accepted, and an accepted one is of one of these sorts
    pub either : (n : ℕ) → n < events_of rec → Refused n ⊎ Accepted n
    pub served : (n : ℕ) → Accepted n → (Opens n ⊎ EndsThread n) ⊎ (Closes n ⊎ Forwards n) ⊎ (Arrives n ⊎ Updates n)
    -- "The N0 counts of all threads add up to the accepted forwards with notify 1 plus the group size for each release", N2 with notify 2
    pub n0s : total_of n0 (threads_of rec) end.counts
        ≡ notifications rec (setup_of rec) end.outcomes (begun registers counts outcomes) 1 (events_of rec)
        + release_sizes rec (setup_of rec) end.outcomes (begun registers counts outcomes) (events_of rec)
    pub n2s : total_of n2 (threads_of rec) end.counts
        ≡ notifications rec (setup_of rec) end.outcomes (begun registers counts outcomes) 2 (events_of rec)
    -- "a nonzero outcome changes nothing else"
    pub refused : (n : ℕ) → Refused n → Unchanged (setup_of rec) (event_at rec n) n (outcome_at n) (met n)
    -- "A forward writes its 2^code bytes at 32 x base + offset of the recipient"
    pub forward : (n : ℕ) → Accepted n → Forwards n → Forwarded n
    -- a forward "adds 1 to its N0 (notify 1) or N2 (notify 2)", and leaves gateways and barriers
    pub notify : (n : ℕ) → Accepted n → Forwards n
        → ((met (suc n)).state ≡ (met n).state) × ((met (suc n)).counts ≡ notified (head_at n).target (head_at n).notify (met n).counts)
    -- "Open sets base, size and key, replacing old ones; with end-of-thread it closes instead"; a close closes
    pub opens : (n : ℕ) → Accepted n → Opens n
        → Leaves n (with_gateway n (opened (head_at n).place (head_at n).code (head_at n).key))
    pub end_of_thread : (n : ℕ) → Accepted n → EndsThread n
        → Leaves n (with_gateway n closed)
    pub close : (n : ℕ) → Accepted n → Closes n → Leaves n (with_gateway n closed)
    -- "An update sets the barrier byte."
    pub update : (n : ℕ) → Accepted n → Updates n → Leaves n (with_byte n)
    -- "When every member of a group waits, each gets one N0"; gateways and bytes stay
    pub arrival : (n : ℕ) → Accepted n → Arrives n
        → Arrived n (whole_with (head_at n) (setup_of rec) (met n).state.waits)
    -- "Outcome bytes past the events stay"
    pub past : (k : ℕ) → events_of rec ≤ k → get_or end.outcomes k 0 ≡ get_or outcomes k 0
    -- "The answer holds the end gateways and barriers", and the buffers are as the last event left them
    pub last : end ≡ ended (setup_of rec) (met (events_of rec))
    -- barriers, before and after every event, after one more has come, and after a release
    pub barriers : (n : ℕ) → SoundBarriers (setup_of rec) (met n).state
    pub waits : (n : ℕ) → Accepted n → Arrives n
        → whole_with (head_at n) (setup_of rec) (met n).state.waits ≡ false
        → (met (suc n)).state.waits ≡ set (met n).state.waits (head_at n).sender true
    pub release : (n : ℕ) → Accepted n → Arrives n
        → whole_with (head_at n) (setup_of rec) (met n).state.waits ≡ true
        → NoneWaits (setup_of rec) (own_group (head_at n) (setup_of rec)) (met (suc n)).state
        × Spared (setup_of rec) (own_group (head_at n) (setup_of rec)) (met n).state (met (suc n)).state

-- ---- the claims

-- every recording that no row refuses, over whatever is lent
abbrev pub AllClaimed : Type 0
AllClaimed =
    (rec registers counts outcomes : List ℕ) → refusal_of rec (length registers) (length counts) (length outcomes) ≡ 0
    → Claims rec registers counts outcomes

-- The answer's number is what the rows give: 0 where they give 0, and nowhere else.
abbrev pub Numbered : Type 0
Numbered =
    (rec registers counts outcomes : List ℕ)
    → (end rec registers counts outcomes).answer.number ≡ refusal_of rec (length registers) (length counts) (length outcomes)

-- "Whole recording refused .. nothing lent changed": the answer has the number, closed gateways and empty barriers
abbrev pub NothingChanged : Type 0
NothingChanged =
    (rec registers counts outcomes : List ℕ) → ((end rec registers counts outcomes).answer.number ≡ 0 → ⊥)
    → end rec registers counts outcomes
    ≡ record {
      answer = refused_answer (end rec registers counts outcomes).answer.number;
      registers = registers;
      counts = counts;
      outcomes = outcomes;
    }
