-- An event's outcome: document 01, the table "Outcome | Exactly when, in order". It goes by the event's head, the header's setup, the
-- recipient's gateway and who waits.
use Rattle.std.specs.Prelude.{◌≡◌, ℕ, ◌+◌, ◌*◌, Bool, not, cond, ◌&&◌, ◌||◌, List, [], ◌∷◌, ltb, leb, eqb}
use Rattle.laws.specs.Rows.{Row, row, first_row}
use Rattle.laws.specs.AnyOf.{any_of}
use Rattle.event.specs.declared.Head.{Head}
use Rattle.event.specs.declared.Setup.{Setup}
use Rattle.event.specs.declared.Gateway.{Gateway}
use Rattle.event.specs.Decision.{Decision, Refused, OpenOrClose, Forward, Wait, Release, Update, on_refused}
use Rattle.event.specs.Codes.{count_of}
use Rattle.event.specs.Gateways.{closed, opened}
use Rattle.event.specs.Groups.{no_group, waits_of, own_group, whole_with}

-- Kinds: "004's SubFuncID", with the names that 004 gives. k is the head's kind, passed on its own so that a law can go by kind.
-- OpenGateway
abbrev pub is_open : ℕ → Bool
is_open k = eqb k 0

-- CloseGateway
abbrev pub is_close : ℕ → Bool
is_close k = eqb k 1

-- ForwardMsg
abbrev pub is_forward : ℕ → Bool
is_forward k = eqb k 2

-- GetTimeStamp
abbrev pub is_timestamp : ℕ → Bool
is_timestamp k = eqb k 3

-- BarrierMsg
abbrev pub is_barrier : ℕ → Bool
is_barrier k = eqb k 4

-- UpdateGatewayState
abbrev pub is_update : ℕ → Bool
is_update k = eqb k 5

-- MMIO Read/Write
abbrev pub is_mmio : ℕ → Bool
is_mmio k = eqb k 6

-- any other kind: not served, or none
pub record Unserved (k : ℕ) : Type 0 where
  pub no_open : k ≡ 0 → ⊥
  pub no_close : k ≡ 1 → ⊥
  pub no_forward : k ≡ 2 → ⊥
  pub no_barrier : k ≡ 4 → ⊥
  pub no_update : k ≡ 5 → ⊥

abbrev pub ends : Head → Bool
ends h = eqb h.ending 1

-- an "open without end-of-thread"
abbrev pub opens : ℕ → Head → Bool
opens k h = is_open k && not (ends h)

-- "An ack counts on kinds 0, 1, 2 and 4"
unfoldable pub counted_ack : ℕ → Head → Bool
counted_ack k h = eqb h.ack 1 && (is_open k || is_close k || is_forward k || is_barrier k)

abbrev pub bypassed : Setup → Bool
bypassed s = eqb s.bypass 1

-- 31, and what it says of some kinds
unfoldable pub end_malformed : ℕ → Head → Bool
end_malformed k h = ends h && (eqb h.ack 1 || not (is_open k || is_close k))

abbrev pub forward_faults : Head → List Bool
forward_faults h = eqb h.notify 3 ∷ ltb 5 h.code ∷ ltb 8191 h.place ∷ []

unfoldable pub forward_malformed : ℕ → Head → Bool
forward_malformed k h = is_forward k && any_of (forward_faults h)

abbrev pub open_faults : Head → List Bool
open_faults h = ltb 127 h.place ∷ ltb 5 h.code ∷ []

unfoldable pub open_malformed : ℕ → Head → Bool
open_malformed k h = opens k h && any_of (open_faults h)

unfoldable pub ack_malformed : ℕ → Head → Bool
ack_malformed k h = counted_ack k h && ltb 127 h.register

-- those of the faults that ask for no kind, which the code tests as one
abbrev pub common_faults : Head → ℕ → List Bool
common_faults h threads = leb threads h.sender ∷ not (eqb h.stray 0) ∷ not (eqb h.padding 0) ∷ []

unfoldable pub common_malformed : Head → ℕ → Bool
common_malformed h threads = any_of (common_faults h threads)

abbrev pub faults : ℕ → Head → ℕ → List Bool
faults k h threads =
    -- "kind over 6; sender not a thread; stray flag"
    ltb 6 k
    ∷ leb threads h.sender
    ∷ not (eqb h.stray 0)
    -- "end-of-thread with ack, or on a kind but 0 and 1"
    ∷ end_malformed k h
    -- "forward with notify 3, length code over 5 or offset over 8,191"
    ∷ forward_malformed k h
    -- "open without end-of-thread with base over 127 or size code over 5"
    ∷ open_malformed k h
    -- "counted ack register over 127"
    ∷ ack_malformed k h
    -- "bytes 10-15 not zero"
    ∷ not (eqb h.padding 0)
    -- "update of a barrier over 15"
    ∷ (is_update k && ltb 15 h.target)
    ∷ []

unfoldable pub malformed : ℕ → Head → ℕ → Bool
malformed k h threads = any_of (faults k h threads)

-- The window of a forward, in bytes from its thread's first register: "32 x base" on, "Under bypass base is 0"; "32 x 2^size code" long,
-- under bypass "the limit in 37 is 4,096".
abbrev pub window_start : Setup → Gateway → ℕ
window_start s g = cond (bypassed s) 0 (32 * g.base)

abbrev pub window_limit : Setup → Gateway → ℕ
window_limit s g = cond (bypassed s) 4096 (32 * count_of g.size)

-- a row refuses with its number
abbrev pub when : ℕ → Bool → Row Decision
when n t = row (Refused n) t

-- Rows 32 to 39 of an event of kind k that is not malformed: g is the gateway of the thread in byte 4.
abbrev pub rule_rows : ℕ → Head → Setup → Gateway → List Bool → List (Row Decision)
rule_rows k h s g waits =
    -- 32: "kind 3 or 6; kind 0 or 1 under bypass"
    when 32 (is_timestamp k || is_mmio k)
    ∷ when 32 ((is_open k || is_close k) && bypassed s)
    -- 33: "open: base + 2^size code over 128 registers"; an open that ends its thread "ignores its payload, 33 included"
    ∷ when 33 (opens k h && ltb 128 (h.place + count_of h.code))
    -- 34: "forward: recipient not a thread"
    ∷ when 34 (is_forward k && leb s.threads h.target)
    -- 35, 36: "its gateway closed; key differs"; under bypass "35 and 36 never occur"
    ∷ when 35 (is_forward k && not (bypassed s) && eqb g.live 0)
    ∷ when 36 (is_forward k && not (bypassed s) && not (eqb h.key g.key))
    -- 37: "offset + 2^length code bytes over 32 x 2^size code"
    ∷ when 37 (is_forward k && ltb (window_limit s g) (h.place + count_of h.code))
    -- 38, 39: "barrier: sender has no group; already waiting"
    ∷ when 38 (is_barrier k && eqb (own_group h s) no_group)
    ∷ when 39 (is_barrier k && waits_of waits h.sender)
    ∷ []

-- The sender's gateway after an open or a close: "Open sets base, size and key, replacing old ones; with end-of-thread it closes instead
-- .. Close always succeeds."
abbrev pub gateway_left : ℕ → Head → Gateway
gateway_left k h = cond (opens k h) (opened h.place h.code h.key) closed

-- "A forward writes its 2^code bytes at 32 x base + offset of the recipient"; a thread has 4,096 bytes of registers
abbrev pub forward_start : Head → Setup → Gateway → ℕ
forward_start h s g = 4096 * h.target + window_start s g + h.place

abbrev pub forwards : Head → Setup → Gateway → Decision
forwards h s g = Forward h.target (forward_start h s g) (count_of h.code) h.notify

-- "When every member of a group waits, each gets one N0 and all are released."
abbrev pub arrives : Head → Setup → List Bool → Decision
arrives h s waits = cond (whole_with h s waits) (Release (own_group h s)) (Wait h.sender)

-- What an event does that no row refuses. "An update sets the barrier byte." No other kind is served: row 32 stands before this.
abbrev pub accepted : ℕ → Head → Setup → Gateway → List Bool → Decision
accepted k h s g waits =
    cond (is_open k || is_close k) (OpenOrClose h.sender (gateway_left k h))
    (cond (is_forward k) (forwards h s g)
    (cond (is_barrier k) (arrives h s waits)
    (cond (is_update k) (Update h.target h.code)
    (Refused 32))))

-- rows 32 to 39, of an event that is not malformed: the first that holds decides
unfoldable pub ruled_of : ℕ → Head → Setup → Gateway → List Bool → Decision
ruled_of k h s g waits = first_row (accepted k h s g waits) (rule_rows k h s g waits)

-- 31 before them
unfoldable pub decided_of : ℕ → Head → Setup → Gateway → List Bool → Decision
decided_of k h s g waits = first_row (accepted k h s g waits) (when 31 (malformed k h s.threads) ∷ rule_rows k h s g waits)

unfoldable pub decision_of : Head → Setup → Gateway → List Bool → Decision
decision_of h s g waits = decided_of h.kind h s g waits

-- the paper's number of a decision: 0 where it is no refusal
unfoldable pub outcome_of : Decision → ℕ
outcome_of d = on_refused d (λ n. n) 0
