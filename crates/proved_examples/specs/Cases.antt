-- Document 01, "Proved examples": P1 to P10, one table, on Gen7. Each has its whole answer and the bytes that it speaks of.
use Rattle.std.specs.Prelude.{◌≡◌, List, [], ◌∷◌, ◌++◌, ℕ, ℤ, pos, negsuc, length, take, drop, replicate}
use Rattle.deltas.specs.Deltas.{delta_of}
use Rattle.batch.specs.declared.Answer.{Answer}
use Rattle.batch.specs.Answers.{refused_answer, accepted_answer, answer_of}
use Rattle.scoreboard.specs.declared.Answer as orders
use Rattle.scoreboard.specs.Answers.{order_of}
use Rattle.event.specs.declared.Gateway.{Gateway}
use Rattle.event.specs.Gateways.{closed, opened}
use Rattle.gateway.specs.declared.Replayed.{Replayed}
use Rattle.gateway.specs.Replay.{empty_barrier, replay_of}

pub data Case : Type 0 where
  -- a nibble and its delta
  Nibble : ℕ → ℤ → Case
  -- the chip's number, the capacity in rows, a batch, and its answer; there is room for four records
  Batch : ℕ → ℕ → List ℕ → Answer → Case
  -- a batch on Gen7, a run, its answer, and the states of two objects
  Order : List ℕ → List ℕ → orders.Answer → List ℕ → Case
  -- A recording of one thread: its end answer, the outcomes, the counts, and the registers' bytes from an index on. Registers begin with 1
  -- in every byte, and counts and outcomes with 9.
  Recording : List ℕ → Replayed → List ℕ → List ℕ → ℕ → List ℕ → Case

-- what a case says
abbrev pub Holds : Case → Type 0
Holds (Nibble n z) = delta_of n ≡ z
Holds (Batch chip capacity b a) = answer_of chip capacity b (replicate 64 0) ≡ a
Holds (Order b run a s) =
    let end = order_of 7 2048 b run (replicate 96 0) (9 ∷ 9 ∷ []) in (end.answer ≡ a) × (end.states ≡ s)
Holds (Recording rec a outs counts at bytes) =
    let end = replay_of rec (replicate 4096 1) (9 ∷ 9 ∷ []) (replicate (length outs) 9) in
    (end.answer ≡ a) × (end.outcomes ≡ outs) × (end.counts ≡ counts) × (take (length bytes) (drop at end.registers) ≡ bytes)

-- every case of a list holds
abbrev pub Each : List Case → Type 0
Each [] = Unit {0}
Each (c ∷ cs) = Holds c × Each cs

-- the batch of document 01's worked listing
abbrev pub worked : List ℕ
worked =
    0x7000_0006 ∷ 0 ∷ 0x0007_0100 ∷ 0 ∷ 0x0002_0004 ∷ 0 ∷ 0 ∷ 0
    ∷ 0x7002_0002 ∷ 0 ∷ 0x20 ∷ 0x1000
    ∷ 0x7100_0004 ∷ 0 ∷ 0 ∷ 0 ∷ 0 ∷ 0
    ∷ 0x0500_0000
    ∷ []

-- two objects at Y = 0 and the X given, both with delta 0 in play, which is -1 in X and 0 in Y; not stalling
abbrev pub blocks : ℕ → ℕ → List ℕ
blocks x0 x1 =
    0x7000_0006 ∷ 0 ∷ 0x0007_0100 ∷ 0 ∷ 0x0002_0004 ∷ 0xc000_0001 ∷ 0x0000_000f ∷ 0
    ∷ 0x7002_0002 ∷ 0 ∷ 0x20 ∷ 0x1000
    ∷ 0x7100_0004 ∷ 0 ∷ 0x0020_0000 ∷ 0 ∷ x0 ∷ 1
    ∷ 0x7100_0004 ∷ 0 ∷ 0x0020_0000 ∷ 0 ∷ x1 ∷ 1
    ∷ 0x0500_0000
    ∷ []

abbrev pub ran : ℕ → ℕ → ℕ → ℕ → orders.Answer
ran number place object delta = record { number = number; place = place; object = object; delta = delta }

-- a recording of one thread, by its bypass byte, its group byte and its events, of which there are n
abbrev pub recording : ℕ → ℕ → ℕ → List ℕ → List ℕ
recording bypass group n events = 71 ∷ 87 ∷ 82 ∷ 1 ∷ 0 ∷ 1 ∷ bypass ∷ n ∷ 0 ∷ 0 ∷ group ∷ events

-- an event of thread 0 by its kind, flags, ack register, bytes 4 and 5, and bytes 8 and 9; its data bytes are all 7
abbrev pub event : ℕ → ℕ → ℕ → ℕ → ℕ → ℕ → ℕ → List ℕ
event kind flags register target code low high =
    kind ∷ 0 ∷ flags ∷ register ∷ target ∷ code ∷ 0 ∷ 0 ∷ low ∷ high ∷ replicate 6 0 ++ replicate 32 7

-- the answer with this gateway for thread 0, all others closed, and barriers empty
abbrev pub ended : Gateway → Replayed
ended g = record { number = 0; gateways = g ∷ replicate 15 closed; barriers = replicate 16 empty_barrier }

abbrev pub none : List ℕ
none = 0 ∷ 0 ∷ []

abbrev pub table : List Case
table =
    -- "P1 nibbles 7, 8, 15 are 7, -8, -1"
    Nibble 7 (pos 7)
    ∷ Nibble 8 (negsuc 7)
    ∷ Nibble 15 (negsuc 0)
    -- "P2 the case above needs 6 rows: capacity 6 passes, 5 gives 9"
    ∷ Batch 7 6 worked (accepted_answer 4 19)
    ∷ Batch 7 5 worked (refused_answer 9 0)
    -- "P3 empty batch: 2 at 0"
    ∷ Batch 7 6 [] (refused_answer 2 0)
    -- "P4 X = 0 with delta -1 waits for nobody at 511"; X = 1 waits for X = 0
    ∷ Order (blocks 511 0) (0 ∷ 2 ∷ []) (ran 0 2 0 0) (1 ∷ 1 ∷ [])
    ∷ Order (blocks 0 1) (0 ∷ 2 ∷ []) (ran 25 1 0 0) (1 ∷ 0 ∷ [])
    -- "P5 open base 127, code 0 passes, code 1 gives 33"
    ∷ Recording (recording 0 255 1 (event 0 0 0 0 0 127 0)) (ended (opened 127 0 0)) (0 ∷ []) none 0 (1 ∷ [])
    ∷ Recording (recording 0 255 1 (event 0 0 0 0 1 127 0)) (ended closed) (33 ∷ []) none 0 (1 ∷ [])
    -- "P6 base 96, code 5 passes, 97 gives 33"
    ∷ Recording (recording 0 255 1 (event 0 0 0 0 5 96 0)) (ended (opened 96 5 0)) (0 ∷ []) none 0 (1 ∷ [])
    ∷ Recording (recording 0 255 1 (event 0 0 0 0 5 97 0)) (ended closed) (33 ∷ []) none 0 (1 ∷ [])
    -- "P7 a one-register window: offset 0 length 32 passes, offset 1 gives 37"; the window is register 2
    ∷ Recording (recording 0 255 2 (event 0 0 0 0 0 2 0 ++ event 2 0 0 0 5 0 0))
    (ended (opened 2 0 0)) (0 ∷ 0 ∷ []) none 63 (1 ∷ replicate 32 7 ++ 1 ∷ [])
    ∷ Recording (recording 0 255 2 (event 0 0 0 0 0 2 0 ++ event 2 0 0 0 5 1 0))
    (ended (opened 2 0 0)) (0 ∷ 37 ∷ []) none 63 (replicate 34 1)
    -- "P8 bypass: offset 4,095 length 1 passes, 4,096 gives 37"
    ∷ Recording (recording 1 255 1 (event 2 0 0 0 0 255 15)) (ended closed) (0 ∷ []) none 4094 (1 ∷ 7 ∷ [])
    ∷ Recording (recording 1 255 1 (event 2 0 0 0 0 0 16)) (ended closed) (37 ∷ []) none 4094 (1 ∷ 1 ∷ [])
    -- "P9 a group of one is released at once": one N0, and nobody waits
    ∷ Recording (recording 0 3 1 (event 4 0 0 0 0 0 0)) (ended closed) (0 ∷ []) (1 ∷ 0 ∷ []) 0 (1 ∷ [])
    -- "P10 a self-forward under its own ack register: the ack's four bytes win"; both are register 0, and the forward is of 8 bytes
    ∷ Recording (recording 1 255 1 (event 2 1 0 0 3 0 0)) (ended closed) (0 ∷ []) none 0 (0 ∷ 0 ∷ 0 ∷ 0 ∷ 7 ∷ 7 ∷ 7 ∷ 7 ∷ 1 ∷ [])
    ∷ []
