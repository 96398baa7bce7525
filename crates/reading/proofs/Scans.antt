-- What a turn of the first pass shows: the answer that is left, and what the next turn starts from. Assumes nothing.
use mathlib.Core.Path.{◌≡◌, refl, sym, ap, ap₂, subst, ◌∙◌}
use mathlib.Core.Bool.{Bool, true, false, cond}
use Prim.Native.Nat.{ℕ, suc, ◌+◌, ◌-◌, ◌<◌, ◌≤◌}
use native.Mathlib.Omega.{arith}
use mathlib.Core.List.{List, [], ◌∷◌}
use lib.ListN.{length, get_or, drop, length-drop}
use lib.Seq.{drop-cons, drop-drop}
use lib.Dec.{eqb}
use borrow.Author.Tests.{ne_eqb}
use Rattle.chips.specs.declared.Target.{Target}
use Rattle.command.specs.declared.State.{State}
use Rattle.command.specs.Kinds.{kind_of, head_of}
use Rattle.command.specs.Order.{object_count, state_of}
use Rattle.chips.specs.Refusals.{number_of_refusal}
use Rattle.judge.specs.declared.Fault.{Fault}
use Rattle.judge.specs.Refusals.{judge_of}
use Rattle.command.proofs.Order.{after_commands, after_objects}
use Rattle.judge.proofs.Judged.{total_pos}
use Rattle.reading.specs.Decision.{Scanned, Stopped, Ended}
use Rattle.reading.specs.Turns.{Turn, Refused, Last, Next}
use Rattle.reading.specs.Reading.{Reading, and_then, reading_of}
use Rattle.reading.specs.Decision.{scanned, scan_of}
use Rattle.reading.specs.Turns.{walk, turn_of, here, scanned_after, scanned_at, scan_from}
use Rattle.reading.proofs.Walk.{reading_walk, then, turn_at, walk_end, passes_in}
use Rattle.reading.proofs.Verdicts.{by_verdict_lem}

-- the bounds of a turn at a command of kind k, with n dwords left
abbrev TurnBounds : ℕ → ℕ → State → Turn → Type 0
TurnBounds n k st (Refused f) = Unit
TurnBounds n k st Last = k ≡ 2
TurnBounds n k st (Next t s) = (1 ≤ t) × (t ≤ n) × (s.commands ≡ st.commands + 1) × (s.objects ≡ cond (eqb k 7) (st.objects + 1) st.objects)

bounds : (d : ℕ) (ds : List ℕ) (st : State) → TurnBounds (suc (length ds)) (kind_of st.chip d) st (turn_of (d ∷ ds) st)
unfolding turn_of
bounds d ds st =
    let k = kind_of st.chip d in
    let h = head_of k (d ∷ ds) in
    by_verdict_lem (TurnBounds (suc (length ds)) k st) k (judge_of k (suc (length ds)) h st) _ _ _
    (λ f e. tt) (λ e q. q) (λ e q. (total_pos k d, passes_in d ds 0 st e, after_commands k h st, after_objects k h st))

-- the kind of the command at a place
abbrev kind_at : State → List ℕ → ℕ → ℕ
kind_at st b at = kind_of st.chip (get_or (drop at b) 0 0)

bounds_at : (b : List ℕ) (at : ℕ) (st : State) → at < length b → TurnBounds (length b - at) (kind_at st b at) st (turn_of (drop at b) st)
bounds_at b at st p =
    let n : suc (length (drop (suc at) b)) ≡ length b - at = ap suc (length-drop (suc at) b) ∙ (omega arith) in
    subst (λ (l : List ℕ). TurnBounds (length b - at) (kind_of st.chip (get_or l 0 0)) st (turn_of l st)) (sym (drop-cons b at 0 p))
    (subst (λ (m : ℕ). TurnBounds m (kind_of st.chip (get_or b at 0)) st (turn_of (get_or b at 0 ∷ drop (suc at) b) st)) n (bounds (get_or b at 0) (drop (suc at) b) st))

-- at most one more
pub grown : (t : Bool) (n : ℕ) → cond t (n + 1) n ≤ n + 1
grown true n = omega arith
grown false n = omega arith

-- L is the length as the code counted it
module _ (b : List ℕ) (L : ℕ) (el : L ≡ length b) (at : ℕ) (st : State) (w : Turn) (t : ℕ) (s : State) (p : at < L) (ew : w ≡ turn_of (drop at b) st) (e : w ≡ Next t s) where
  pub next_bounds : (1 ≤ t) × (t ≤ length b - at) × (s.commands ≡ st.commands + 1) × (s.objects ≡ cond (eqb (kind_at st b at) 7) (st.objects + 1) st.objects)
  next_bounds = subst (TurnBounds (length b - at) (kind_at st b at) st) (sym ew ∙ e) (bounds_at b at st (omega arith))

  pub next_less : length b - (at + t) < length b - at
  next_less = let z = next_bounds in omega arith

  pub next_in : at + t ≤ length b
  next_in = let z = next_bounds in omega arith

  pub next_commands : st.commands ≤ at → s.commands ≤ at + t
  next_commands q = let z = next_bounds in omega arith

  pub next_objects : st.objects ≤ at → s.objects ≤ at + t
  next_objects q = let z = next_bounds in let g = grown (eqb (kind_at st b at) 7) st.objects in omega arith

pub ruleset next_laws = (next_less, next_in, next_commands, next_objects)

pub scan_start : (target : Target) (b : List ℕ) (st : State) → st ≡ state_of target [] → scanned_at st (walk b 0 0 st) ≡ scan_of target b
unfolding scan_of state_of object_count
scan_start target b st e =
    ap (λ (s : State). scanned_at s (walk b 0 0 s)) e
    ∙ ap (λ (r : Reading). scanned_after 0 0 r) (sym (reading_walk target b))
    ∙ (let cs = (reading_of target b).passed in
    let z : 0 + length cs ≡ length cs = omega arith in
    let y : 0 + object_count cs ≡ object_count cs = omega arith in
    ap₂ (λ (n o : ℕ). scanned n o (reading_of target b).stop) z y)

pub start_commands : (target : Target) (st : State) → st ≡ state_of target [] → st.commands ≤ 0
unfolding state_of
start_commands target st e = let z : st.commands ≡ 0 = ap (λ (s : State). s.commands) e in omega arith

pub start_objects : (target : Target) (st : State) → st ≡ state_of target [] → st.objects ≤ 0
unfolding state_of object_count
start_objects target st e = let z : st.objects ≡ 0 = ap (λ (s : State). s.objects) e in omega arith

-- an object is counted before the rest, or with it
counted : (t : Bool) (o n : ℕ) → cond t (o + 1) o + n ≡ o + cond t (n + 1) n
counted true o n = omega arith
counted false o n = refl

last_count : (k o : ℕ) → k ≡ 2 → o + cond (eqb k 7) (0 + 1) 0 ≡ o
last_count k o e = simp (ne_eqb k 7 (λ q. omega arith)) (omega arith)

module _ (x : Scanned) (b : List ℕ) (L : ℕ) (el : L ≡ length b) (at : ℕ) (st : State) (w : Turn) (p : at < L)
    (inv : scan_from b at st ≡ x) (ew : w ≡ turn_of (drop at b) st) where
  scan_turn : (v : Turn) → w ≡ v → scanned_at st (then v (drop at b) at st) ≡ x
  scan_turn v e =
      ap (λ (v : Turn). scanned_at st (then v (drop at b) at st)) (sym e ∙ ew)
      ∙ ap (scanned_at st) (sym (turn_at b at st (omega arith))) ∙ inv

  pub scan_refused : (f : Fault) → w ≡ Refused f → Stopped (number_of_refusal f.refusal) (at + f.skip) ≡ x
  scan_refused f e = scan_turn (Refused f) e

  pub scan_last : w ≡ Last → Ended (st.commands + 1) (at + 1) st.objects ≡ x
  unfolding object_count
  scan_last e =
      let k : kind_at st b at ≡ 2 = subst (TurnBounds (length b - at) (kind_at st b at) st) (sym ew ∙ e) (bounds_at b at st (omega arith)) in
      ap (λ (o : ℕ). Ended (st.commands + 1) (at + 1) o) (sym (last_count (kind_at st b at) st.objects k)) ∙ scan_turn Last e

  pub scan_next : (t : ℕ) (s : State) → w ≡ Next t s → scan_from b (at + t) s ≡ x
  unfolding object_count
  scan_next t s e =
      let z = next_bounds b L el at st w t s p ew e in
      let r = walk (drop (at + t) b) 0 (at + t) s in
      let c : s.commands + length r.passed ≡ st.commands + suc (length r.passed) = omega arith in
      let o = ap (λ (n : ℕ). n + object_count r.passed) z.3 ∙ counted (eqb (kind_at st b at) 7) st.objects (object_count r.passed) in
      ap₂ (λ (m n : ℕ). scanned m n r.stop) c o
      ∙ ap (λ (l : List ℕ). scanned_at st (and_then (here (drop at b) at st) (walk l 0 (at + t) s))) (sym (drop-drop t at b))
      ∙ scan_turn (Next t s) e

pub scan_end : (b : List ℕ) (L at : ℕ) (st : State) (x y : Scanned) → L ≡ length b → L ≤ at → scan_from b at st ≡ y → y ≡ x → Stopped 2 at ≡ x
scan_end b L at st x y el q inv whole = sym (ap (scanned_at st) (walk_end b at st (omega arith))) ∙ inv ∙ whole

pub ruleset start_laws = (start_commands, start_objects)

pub ruleset scan_laws = (scan_refused, scan_last, scan_next)
