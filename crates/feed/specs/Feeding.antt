-- What a call of the chunked check gives back, and what it leaves in the lent record buffer: document 02, Three, "We want a check fed chunk
-- by chunk, in a reader that keeps its place in the caller's slice for the length of a call, with a small carried state between calls." A
-- call goes by what it is given: the chip's number, the capacity in rows, the carried state, the chunk, whether it is the last, and the
-- record buffer.
use Rattle.std.specs.Prelude.{ℕ, ◌+◌, Bool, true, false, cond, ◌&&◌, ◌||◌, List, [], ◌∷◌, length, ltb, leb, eqb}
use Rattle.chips.specs.declared.Target.{Target}
use Rattle.chips.specs.Chips.{target_of, on_chip}
use Rattle.command.specs.declared.State.{State}
use Rattle.reading.specs.Decision.{at_limit}
use Rattle.batch.specs.declared.Answer.{Answer}
use Rattle.batch.specs.Answers.{refused_answer, accepted_answer}
use Rattle.progress.specs.declared.Progress.{Progress}
use Rattle.progress.specs.Steps.{none, at_end, Stage, stage, step_on, stop_by}
use Rattle.feed.specs.declared.Order.{Order}
use Rattle.feed.specs.declared.Carried.{Carried}
use Rattle.feed.specs.declared.Fed.{Fed}

-- "a fresh carried state": all zero
abbrev pub no_order : Order
no_order =
    record {
      earlier_vfe = 0;
      vfe_in_force = 0;
      vfe_dword1 = 0;
      vfe_dword2 = 0;
      vfe_dword3 = 0;
      vfe_dword4 = 0;
      count_loaded = 0;
      standing = 0;
      commands = 0;
      objects = 0;
    }

abbrev pub fresh : Carried
fresh = record { answered = 0; dwords = 0; stop = 0; place = 0; got = 0; own = none; order = no_order }

-- what the commands passed have set, by the carried state, for the chip and the capacity that the call names
abbrev pub state_by : Target → Order → State
state_by target o =
    record {
      chip = target.chip;
      capacity = target.capacity;
      earlier_vfe = o.earlier_vfe;
      vfe_in_force = o.vfe_in_force;
      vfe_dword1 = o.vfe_dword1;
      vfe_dword2 = o.vfe_dword2;
      vfe_dword3 = o.vfe_dword3;
      vfe_dword4 = o.vfe_dword4;
      count_loaded = o.count_loaded;
      standing = o.standing;
      commands = o.commands;
      objects = o.objects;
    }

abbrev pub order_by : State → Order
order_by st =
    record {
      earlier_vfe = st.earlier_vfe;
      vfe_in_force = st.vfe_in_force;
      vfe_dword1 = st.vfe_dword1;
      vfe_dword2 = st.vfe_dword2;
      vfe_dword3 = st.vfe_dword3;
      vfe_dword4 = st.vfe_dword4;
      count_loaded = st.count_loaded;
      standing = st.standing;
      commands = st.commands;
      objects = st.objects;
    }

-- how far the reading has come
abbrev pub resumed : Target → Carried → Progress
resumed target c = record { st = state_by target c.order; own = c.own; place = c.place; got = c.got; stop = c.stop }

-- the carried state of a reading after so many dwords, before an answer
abbrev pub carried_by : ℕ → Progress → Carried
carried_by dwords p =
    record { answered = 0; dwords = dwords; stop = p.stop; place = p.place; got = p.got; own = p.own; order = order_by p.st }

-- One dword more of the batch, after so many: "the first 16,384 dwords" are read; any more make it too long, which 16,385 says.
pub record Taken : Type 0 where
  pub dwords : ℕ
  pub stage : Stage

abbrev pub taken : ℕ → Stage → Taken
taken n s = record { dwords = n; stage = s }

unfoldable pub take_dword : Taken → ℕ → Taken
take_dword t d = cond (ltb t.dwords 16384) (taken (t.dwords + 1) (step_on t.stage d)) (taken 16385 t.stage)

-- a chunk: its dwords one after the other
unfoldable pub take_chunk : Taken → List ℕ → Taken
take_chunk t [] = t
take_chunk t (d ∷ ds) = take_chunk (take_dword t d) ds

-- what a call leaves: the carried state, and the record buffer
pub record Left : Type 0 where
  pub carried : Carried
  pub records : List ℕ

abbrev pub left : Carried → List ℕ → Left
left c r = record { carried = c; records = r }

abbrev pub left_by : Taken → Left
left_by t = left (carried_by t.dwords t.stage.progress) t.stage.records

-- after a chunk, for a known chip
unfoldable pub chunk_taken : Target → Carried → List ℕ → List ℕ → Left
chunk_taken target c chunk r = left_by (take_chunk (taken c.dwords (stage (resumed target c) r)) chunk)

-- 18: a chunk for no chip is not read, and the last call answers so
abbrev pub refused_by : ℕ → ℕ → Carried → Carried
refused_by number place c =
    record {
      answered = c.answered;
      dwords = c.dwords;
      stop = number;
      place = place;
      got = c.got;
      own = c.own;
      order = c.order;
    }

-- after a chunk
unfoldable pub after_chunk : ℕ → ℕ → Carried → List ℕ → List ℕ → Left
after_chunk chip capacity c chunk r =
    on_chip (λ number place. left (refused_by number place c) r) (λ named. chunk_taken (target_of named capacity) c chunk r) chip

-- The answer after the last chunk, to a record buffer of so many words: 18 before all others; 1, "over 16,384 dwords (place 0)", by the
-- dwords of all chunks; 2 to 10 as the reading says.
unfoldable pub answer_at : ℕ → Carried → Answer
answer_at room c =
    cond (eqb c.stop 18) (refused_answer 18 0)
    (at_limit refused_answer accepted_answer c.dwords room c.order.commands (stop_by c.stop c.got c.place))

-- Which carried states can be gone on from: a test that no paper has, for a caller who gives one that no call returned (docs/DECISIONS.md).
-- How reading can have stopped: at a refusal of 3 to 9 or 18, or at END.
abbrev pub is_stop : ℕ → Bool
is_stop n = (leb 3 n && leb n 9) || eqb n 18 || eqb n at_end

-- how many dwords have been read
abbrev pub read_of : ℕ → ℕ
read_of dwords = cond (ltb 16384 dwords) 16384 dwords

-- a reading that goes on: it has read no more dwords than have come, and counts no more commands and objects than dwords
abbrev pub goes_on : Carried → Bool
goes_on c = leb (c.place + c.got) (read_of c.dwords) && leb c.order.commands c.place && leb c.order.objects c.place

-- No answer was given, and the carried state can be one that a call returned, as far as this tells; any other is answered as after an
-- answer.
unfoldable pub usable : Carried → Bool
usable c = eqb c.answered 0 && leb c.dwords 16385 && cond (eqb c.stop 0) (goes_on c) (is_stop c.stop)

-- what a call says: that more is wanted, where the numbers of an answer are 0 ..
abbrev pub says_more : Carried → Fed
says_more c = record { carried = c; more = 1; answer = accepted_answer 0 0 }

-- .. or the answer
abbrev pub gives : Carried → Answer → Fed
gives c answer = record { carried = c; more = 0; answer = answer }

-- an answer was given
abbrev pub answered : Carried → Carried
answered c =
    record { answered = 1; dwords = c.dwords; stop = c.stop; place = c.place; got = c.got; own = c.own; order = c.order }

-- "marks the last chunk. Only that call answers"
abbrev pub fed_of : Bool → ℕ → Carried → Fed
fed_of true room c = gives (answered c) (answer_at room c)
fed_of false room c = says_more c

-- "19, a chunk offered after an answer was given", with "place 0": the carried state is handed back as it is
abbrev pub late_fed : Carried → Fed
late_fed c = gives c (refused_answer 19 0)

-- what a call gives back, and the record buffer at exit
pub record Result : Type 0 where
  pub fed : Fed
  pub records : List ℕ

abbrev pub result_of : Fed → List ℕ → Result
result_of f r = record { fed = f; records = r }

-- A call. 19 is "checked before 18"; "A new refusal .. changes nothing lent".
unfoldable pub feed_of : ℕ → ℕ → Carried → List ℕ → Bool → List ℕ → Result
feed_of chip capacity c chunk last r =
    let l = after_chunk chip capacity c chunk r in
    cond (usable c) (result_of (fed_of last (length r) l.carried) l.records)
    (result_of (late_fed c) r)
