-- What an event's decision leaves: document 01, the paragraph below the table of outcomes.
use Rattle.std.specs.Prelude.{◌≡◌, ℕ, ◌+◌, ◌*◌, ◌/◌, ◌%◌, ◌^◌, ◌≤◌, ◌<◌, Bool, true, false, not, cond, ◌&&◌, ◌||◌, List, eqb, length, get_or, set, drop}
use Rattle.std.proofs.Math.Seq.{paste}
use Rattle.event.specs.declared.Head.{Head}
use Rattle.event.specs.declared.Setup.{Setup}
use Rattle.event.specs.declared.Gateway.{Gateway}
use Rattle.event.specs.Decision.{Decision, on_open_or_close, on_forward, on_wait, on_release, on_update}
use Rattle.event.specs.Groups.{over_members}
use Rattle.event.specs.Outcomes.{counted_ack}

-- an open or a close sets its thread's gateway
unfoldable pub gateways_after : Decision → List Gateway → List Gateway
gateways_after d gs = on_open_or_close d (λ t gateway. set gs t gateway) gs

-- "A forward writes its 2^code bytes": those of the event's data, which stands from byte 16 on
unfoldable pub forwarded : Decision → List ℕ → List ℕ → List ℕ
forwarded d ev rs = on_forward d (λ r start count notify. paste rs start (drop 16 ev) count) rs

-- n bytes of an event's data stand in rs' from a on, and all else there is as it is in rs (`written`)
pub record Written (a n : ℕ) (ev rs rs' : List ℕ) : Type 0 where
  pub inside : (j : ℕ) → j < n → get_or rs' (a + j) 0 ≡ get_or ev (16 + j) 0
  pub before : (p : ℕ) → p < a → get_or rs' p 0 ≡ get_or rs p 0
  pub after : (p : ℕ) → a + n ≤ p → get_or rs' p 0 ≡ get_or rs p 0
  pub long : length rs' ≡ length rs

-- Counts lie "two a thread (N0, then N2)".
abbrev pub n0 : ℕ → ℕ
n0 t = 2 * t

abbrev pub n2 : ℕ → ℕ
n2 t = 2 * t + 1

abbrev pub one_more : List ℕ → ℕ → List ℕ
one_more cs k = set cs k (get_or cs k 0 + 1)

-- a forward "adds 1 to its N0 (notify 1) or N2 (notify 2)"
unfoldable pub notified : ℕ → ℕ → List ℕ → List ℕ
notified r notify cs = cond (eqb notify 1) (one_more cs (n0 r)) (cond (eqb notify 2) (one_more cs (n2 r)) cs)

-- "each gets one N0": the members of group g among the first n threads
abbrev pub group_notified : ℕ → List ℕ → ℕ → List ℕ → List ℕ
group_notified n groups g cs = over_members n groups g (λ t counts. one_more counts (n0 t)) cs

unfoldable pub counts_after : Decision → Setup → List ℕ → List ℕ
counts_after d s cs =
    on_forward d (λ r start count notify. notified r notify cs)
    (on_release d (λ g. group_notified s.threads s.groups g cs)
    cs)

-- "all are released": the members of group g among the first n threads wait no more
abbrev pub released : ℕ → List ℕ → ℕ → List Bool → List Bool
released n groups g waits = over_members n groups g (λ t waiting. set waiting t false) waits

-- "When every member of a group waits, each gets one N0 and all are released."
unfoldable pub waits_after : Decision → Setup → List Bool → List Bool
waits_after d s waits =
    on_wait d (λ t. set waits t true)
    (on_release d (λ g. released s.threads s.groups g waits)
    waits)

-- "An update sets the barrier byte."
unfoldable pub bytes_after : Decision → List ℕ → List ℕ
bytes_after d bs = on_update d (λ barrier byte. set bs barrier byte) bs

-- "a counted ack with outcome not 31 or 32"
abbrev pub acknowledged : Head → ℕ → Bool
acknowledged h outcome = counted_ack h.kind h && not (eqb outcome 31 || eqb outcome 32)

-- "at the start of the sender's ack register": a thread has 4,096 bytes of registers, and a register 32
abbrev pub ack_place : Head → ℕ
ack_place h = 4096 * h.sender + 32 * h.register

-- "as four bytes, low first"
abbrev pub four_bytes : List ℕ → ℕ → ℕ → List ℕ
four_bytes rs p v =
    set (set (set (set rs p (v % 2 ^ 8)) (p + 1) (v / 2 ^ 8 % 2 ^ 8)) (p + 2) (v / 2 ^ 16 % 2 ^ 8)) (p + 3) (v / 2 ^ 24 % 2 ^ 8)

-- "Last, a counted ack with outcome not 31 or 32 writes the outcome as four bytes, low first, at the start of the sender's ack register."
unfoldable pub with_ack : Head → ℕ → List ℕ → List ℕ
with_ack h outcome rs = cond (acknowledged h outcome) (four_bytes rs (ack_place h) outcome) rs

-- What a notification needs: two counts a thread, of which every one can take one more.
pub record CountRoom (s : Setup) (counts : List ℕ) : Type 0 where
  pub two : length counts ≡ 2 * s.threads
  pub low : (k : ℕ) → get_or counts k 0 < 4294967295
