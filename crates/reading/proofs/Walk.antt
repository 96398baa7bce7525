-- The reading turn by turn: with what the commands before have set in place of their list, and from a place of the batch on. Assumes nothing.
use mathlib.Core.Path.{◌≡◌, refl, sym, ap, subst, ◌∙◌}
use Prim.Native.Nat.{ℕ, zero, suc, ◌+◌, ◌-◌, ◌<◌, ◌≤◌}
use native.Mathlib.Nat.{add-zero}
use native.Mathlib.Omega.{arith}
use mathlib.Core.List.{List, [], ◌∷◌}
use lib.ListN.{length, get_or, drop, drop_of_length-le}
use lib.Seq.{drop-cons}
use Rattle.chips.specs.declared.Target.{Target}
use Rattle.command.specs.declared.State.{State}
use Rattle.command.specs.Kinds.{kind_of, total_of, head_of}
use Rattle.command.specs.Order.{Command, state_of, state_after}
use Rattle.chips.specs.Refusals.{number_of_refusal}
use Rattle.judge.specs.Refusals.{Verdict, no_fault, judge_of}
use Rattle.command.proofs.Order.{state_after_lem}
use Rattle.judge.proofs.Judged.{passed_header, passed_fits, total_pos}
use Rattle.reading.specs.Turns.{Turn, Refused, Last, Next}
use Rattle.reading.specs.Reading.{ended, stopped, Reading, reading, and_then, command_at, after_verdict, read, reading_of}
use Rattle.reading.specs.Turns.{turned, turn_of, here, walk}
use Rattle.reading.proofs.Verdicts.{by_verdicts}

pub read_walk : (target : Target) (l : List ℕ) (n at : ℕ) (cs : List Command) → read target l n at cs ≡ walk l n at (state_of target cs)
unfolding read walk state_of
read_walk target [] n at cs = refl
read_walk target (d ∷ ds) (suc n) at cs = read_walk target ds n (at + 1) cs
read_walk target (d ∷ ds) zero at cs =
    let k = kind_of target.chip d in
    let st = state_of target cs in
    let c = command_at k (d ∷ ds) at st in
    ap (after_verdict (judge_of k (length (d ∷ ds)) c.head st) c)
    (read_walk target ds (c.total - 1) (at + 1) (c ∷ cs) ∙ ap (walk ds (c.total - 1) (at + 1)) (state_after_lem target c cs))

pub reading_walk : (target : Target) (b : List ℕ) → reading_of target b ≡ walk b 0 0 (state_of target [])
unfolding reading_of
reading_walk target b = read_walk target b 0 0 []

-- what is left of a command is passed over
walk_skip : (l : List ℕ) (s at : ℕ) (st : State) → s ≤ length l → walk l s at st ≡ walk (drop s l) 0 (at + s) st
unfolding walk
walk_skip l zero at st h = ap (λ (x : ℕ). walk l 0 x st) (sym (add-zero at))
walk_skip [] (suc s) at st h = let z : suc s ≤ 0 = h in absurd (omega arith)
walk_skip (d ∷ ds) (suc s) at st h =
    let e : at + 1 + s ≡ at + suc s = omega arith in walk_skip ds s (at + 1) st (omega arith) ∙ ap (λ (x : ℕ). walk (drop s ds) 0 x st) e

-- a turn, then the rest of the list
abbrev pub then : Turn → List ℕ → ℕ → State → Reading
then (Refused f) l at st = reading [] (stopped (number_of_refusal f.refusal) (at + f.skip))
then Last l at st = reading (here l at st ∷ []) (ended (at + 1))
then (Next t next) l at st = and_then (here l at st) (walk (drop t l) 0 (at + t) next)

module _ (d : ℕ) (ds : List ℕ) (at : ℕ) (st : State) where
  abbrev t : ℕ
  t = total_of (kind_of st.chip d) d

  abbrev next : State
  next = state_after (kind_of st.chip d) (head_of (kind_of st.chip d) (d ∷ ds)) st

  rest : t ≤ suc (length ds) → walk ds (t - 1) (at + 1) next ≡ walk (drop t (d ∷ ds)) 0 (at + t) next
  rest p =
      let q = total_pos (kind_of st.chip d) d in
      let e : t ≡ suc (t - 1) = omega arith in
      let f : at + 1 + (t - 1) ≡ at + t = omega arith in
      walk_skip ds (t - 1) (at + 1) next (omega arith)
      ∙ ap (λ (x : ℕ). walk (drop (t - 1) ds) 0 x next) f
      ∙ ap (λ (x : ℕ). walk (drop x (d ∷ ds)) 0 (at + t) next) (sym e)

  by_turn : (v : Verdict) → (v ≡ no_fault → t ≤ suc (length ds)) →
      after_verdict v (here (d ∷ ds) at st) (walk ds (t - 1) (at + 1) next) ≡ then (turned v (kind_of st.chip d) (d ∷ ds) st) (d ∷ ds) at st
  by_turn v p =
      by_verdicts (λ (r : Reading) (w : Turn). r ≡ then w (d ∷ ds) at st) (kind_of st.chip d) v _ _ _ _ _ _
      (λ f e. refl) (λ e q. refl) (λ e q. ap (and_then (here (d ∷ ds) at st)) (rest (p e)))

  pub passes_in : judge_of (kind_of st.chip d) (suc (length ds)) (head_of (kind_of st.chip d) (d ∷ ds)) st ≡ no_fault → t ≤ suc (length ds)
  unfolding head_of
  passes_in e = passed_fits (kind_of st.chip d) d (suc (length ds)) (passed_header (kind_of st.chip d) (suc (length ds)) (head_of (kind_of st.chip d) (d ∷ ds)) st e)

  -- LAW: a batch is its first command, then the rest of the list
  pub walk_turn : walk (d ∷ ds) 0 at st ≡ then (turn_of (d ∷ ds) st) (d ∷ ds) at st
  unfolding walk turn_of
  walk_turn = by_turn (judge_of (kind_of st.chip d) (suc (length ds)) (head_of (kind_of st.chip d) (d ∷ ds)) st) passes_in

-- the same at a place of a batch
pub turn_at : (b : List ℕ) (at : ℕ) (st : State) → at < length b → walk (drop at b) 0 at st ≡ then (turn_of (drop at b) st) (drop at b) at st
turn_at b at st p =
    subst (λ (l : List ℕ). walk l 0 at st ≡ then (turn_of l st) l at st) (sym (drop-cons b at 0 p)) (walk_turn (get_or b at 0) (drop (suc at) b) at st)

pub walk_end : (b : List ℕ) (at : ℕ) (st : State) → length b ≤ at → walk (drop at b) 0 at st ≡ reading [] (stopped 2 at)
unfolding walk
walk_end b at st q = ap (λ (l : List ℕ). walk l 0 at st) (drop_of_length-le b q)
