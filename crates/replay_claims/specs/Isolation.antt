-- Isolation of recordings, the third demand: what is forwarded to one thread shows nowhere but in that thread's registers. Document 01,
-- "What each entry owes its caller", fixes the terms.
use Rattle.std.specs.Prelude.{◌≡◌, ◌⊎◌, List, ℕ, suc, ◌+◌, ◌-◌, ◌*◌, ◌^◌, ◌≤◌, ◌<◌, length, get_or, set}
use Rattle.event.specs.Head.{byte_at}
use Rattle.effects.specs.Effects.{ack_place}
use Rattle.recording.specs.Recording.{threads_of, events_of, first_event, event_at, form_refusal_of, refusal_of}
use Rattle.replay_claims.specs.Claims.{end, met, head_at, outcome_at, place_at, count_at}

-- "its registers are the lent registers' bytes from 4,096 x n on, at most 4,096": index k of the registers is thread n's
pub record Own (n k : ℕ) : Type 0 where
  pub from : 4096 * n ≤ k
  pub to : k < 4096 * n + 4096

-- "A forward naming n is any event of kind 2 with n in byte 4": byte k of the recording is data (byte 16 to 47) of such an event; "A
-- recording refused with 11 to 14 has no events"
pub record Data (n : ℕ) (rec : List ℕ) (k : ℕ) : Type 0 where
  pub event : ℕ
  pub byte : ℕ
  pub has_events : form_refusal_of rec ≡ 0
  pub one : event < events_of rec
  pub place : k ≡ first_event rec + 48 * event + byte
  pub from : 16 ≤ byte
  pub to : byte < 48
  pub kind : byte_at rec (first_event rec + 48 * event + 0) ≡ 2
  pub names : byte_at rec (first_event rec + 48 * event + 4) ≡ n

-- two recordings that agree but for such bytes; "Two things said to agree but for some bytes .. have one length"
pub record Alike (n : ℕ) (rec rec' : List ℕ) : Type 0 where
  pub long : length rec ≡ length rec'
  pub same : (k : ℕ) → (Data n rec k → ⊥) → get_or rec k 0 ≡ get_or rec' k 0

-- two lists of one length that agree outside n's registers
pub record Outside (n : ℕ) (rs rs' : List ℕ) : Type 0 where
  pub long : length rs ≡ length rs'
  pub same : (k : ℕ) → (Own n k → ⊥) → get_or rs k 0 ≡ get_or rs' k 0

-- "A forward of outcome 0 lands on each byte it writes, overwritten later or not": on index k, by the gateway as the event met it. Nothing
-- lands in a recording that is refused as a whole.
pub record Landed (n : ℕ) (rec registers counts outcomes : List ℕ) (k : ℕ) : Type 0 where
  pub event : ℕ
  pub accepted : refusal_of rec (length registers) (length counts) (length outcomes) ≡ 0
  pub one : event < events_of rec
  pub kind : (head_at rec registers counts outcomes event).kind ≡ 2
  pub names : (head_at rec registers counts outcomes event).target ≡ n
  pub outcome : outcome_at rec registers counts outcomes event ≡ 0
  pub from : place_at rec registers counts outcomes event ≤ k
  pub to : k < place_at rec registers counts outcomes event + count_at rec registers counts outcomes event

-- The claim of two replays over the same counts and outcome buffers.
pub record Isolated (n : ℕ) (rec rec' registers registers' counts outcomes : List ℕ) : Type 0 where
  -- every number of the answer, every count and every outcome byte
  pub answer : (end rec registers counts outcomes).answer ≡ (end rec' registers' counts outcomes).answer
  pub counted : (end rec registers counts outcomes).counts ≡ (end rec' registers' counts outcomes).counts
  pub outcome : (end rec registers counts outcomes).outcomes ≡ (end rec' registers' counts outcomes).outcomes
  -- the registers of all other threads
  pub outside : Outside n (end rec registers counts outcomes).registers (end rec' registers' counts outcomes).registers
  -- a byte of n's registers ends different only where it began different or a forward landed on it
  pub inside : (k : ℕ) → Own n k → get_or registers k 0 ≡ get_or registers' k 0 → (Landed n rec registers counts outcomes k → ⊥)
      → get_or (end rec registers counts outcomes).registers k 0 ≡ get_or (end rec' registers' counts outcomes).registers k 0

-- ---- guards: the words above are no narrower, and no wider, than the paper's

-- what a byte received on which a forward landed: it is one of the 2^code that the event writes, and right after that event it holds the
-- event's data byte, but for the acknowledgement's four bytes
pub record Received (n : ℕ) (rec registers counts outcomes : List ℕ) (k event : ℕ) : Type 0 where
  pub from : 4096 * n ≤ k
  pub to : k ≤ 4096 * n + 4095
  pub first : place_at rec registers counts outcomes event ≤ k
  pub last : k < place_at rec registers counts outcomes event + 2 ^ (head_at rec registers counts outcomes event).code
  pub held : (ack_place (head_at rec registers counts outcomes event) ≤ k → k < ack_place (head_at rec registers counts outcomes event) + 4 → ⊥)
      → get_or (met rec registers counts outcomes (suc event)).registers k 0
      ≡ get_or (event_at rec event) (16 + (k - place_at rec registers counts outcomes event)) 0

-- a recording that is not refused with 11 to 14, by the answer's number, whatever is lent
abbrev pub HasEvents : List ℕ → List ℕ → List ℕ → List ℕ → Type 0
HasEvents rec registers counts outcomes =
    ((end rec registers counts outcomes).answer.number ≡ 0) ⊎ (14 < (end rec registers counts outcomes).answer.number)

pub record Guards : Type 0 where
  -- any value in any of the bytes 16 to 47 of any event of kind 2 with n in byte 4 gives recordings that are alike
  pub any_data : (n event byte value : ℕ) (rec registers counts outcomes : List ℕ) → HasEvents rec registers counts outcomes
      → event < events_of rec → byte_at rec (10 + threads_of rec + 48 * event) ≡ 2 → byte_at rec (10 + threads_of rec + 48 * event + 4) ≡ n
      → 16 ≤ byte → byte ≤ 47 → Alike n rec (set rec (10 + threads_of rec + 48 * event + byte) value)
  -- any value at any index 4,096 x n to 4,096 x n + 4,095 gives registers that agree outside n's
  pub any_own : (n k value : ℕ) (rs : List ℕ) → 4096 * n ≤ k → k ≤ 4096 * n + 4095 → Outside n rs (set rs k value)
  -- an accepted forward naming n lands on each of its 2^code bytes
  pub lands : (n event j : ℕ) (rec registers counts outcomes : List ℕ) → (end rec registers counts outcomes).answer.number ≡ 0
      → event < events_of rec
      → (head_at rec registers counts outcomes event).kind ≡ 2 → (head_at rec registers counts outcomes event).target ≡ n
      → outcome_at rec registers counts outcomes event ≡ 0 → j < 2 ^ (head_at rec registers counts outcomes event).code
      → Landed n rec registers counts outcomes (place_at rec registers counts outcomes event + j)
  -- and on no other: each byte on which it landed is one of n's own, and held its data byte
  pub received : (n k : ℕ) (rec registers counts outcomes : List ℕ) (l : Landed n rec registers counts outcomes k)
      → Received n rec registers counts outcomes k l.event
