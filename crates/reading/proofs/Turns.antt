-- The turn at a place of a batch, from the dwords that the code read there. Assumes nothing.
use mathlib.Core.Path.{◌≡◌, sym, ap, ap₂, ◌∙◌}
use mathlib.Core.Bool.{cond}
use Prim.Native.Nat.{ℕ, ◌+◌, ◌-◌, ◌<◌, ◌≤◌}
use native.Mathlib.Nat.{add-zero}
use native.Mathlib.Omega.{arith}
use mathlib.Core.List.{List}
use lib.ListN.{length, get_or, drop, length-drop}
use lib.Seq.{get_or-drop}
use lib.Dec.{eqb}
use borrow.Author.Tests.{eq-eqb, ne_eqb}
use Rattle.command.specs.declared.State.{State}
use Rattle.command.specs.Kinds.{kind_of, total_of, head_of, own_dwords}
use Rattle.command.specs.Order.{state_after}
use Rattle.std.specs.Prelude.{None, Ok, Err}
use Rattle.judge.specs.declared.Fault.{Fault}
use Rattle.judge.specs.Refusals.{Verdict, no_fault, header_verdict, own_verdict, judge_of}
use Rattle.judge.proofs.Judged.{judge_own, judge_header, own_fits_left}
use Rattle.reading.specs.declared.Halt.TheVariants.{Faulty, End}
use Rattle.reading.specs.Turns.{Refused, Last, Next}
use Rattle.reading.specs.Turns.{Step, on, step_of, turned, turn_of}

-- d and k are the first dword at a place and its kind, L the dwords of the batch, w the verdict on the header, as the code has them
module _ (b : List ℕ) (L at d k : ℕ) (st : State) (w : Verdict) (el : L ≡ length b) (ed : d ≡ get_or b at 0) (ek : k ≡ kind_of st.chip d) (ew : w ≡ header_verdict k d (L - at)) where
  pub first : get_or (drop at b) 0 0 ≡ d
  first = simp (get_or-drop, add-zero) (sym ed)

  pub left : length (drop at b) ≡ L - at
  left = length-drop at b ∙ ap (λ (n : ℕ). n - at) (sym el)

  pub turn_is : turn_of (drop at b) st ≡ turned (judge_of k (L - at) (head_of k (drop at b)) st) k (drop at b) st
  unfolding turn_of
  turn_is =
      let e : kind_of st.chip (get_or (drop at b) 0 0) ≡ k = ap (kind_of st.chip) first ∙ sym ek in
      ap (λ (x : ℕ). turned (judge_of x (length (drop at b)) (head_of x (drop at b)) st) x (drop at b) st) e
      ∙ ap (λ (n : ℕ). turned (judge_of k n (head_of k (drop at b)) st) k (drop at b) st) left

  pub head_first : get_or (head_of k (drop at b)) 0 0 ≡ d
  unfolding head_of
  head_first = first

  header_is : header_verdict k (get_or (head_of k (drop at b)) 0 0) (L - at) ≡ w
  header_is = ap (λ (x : ℕ). header_verdict k x (L - at)) head_first ∙ sym ew

  pub turn_header : (f : Fault) → w ≡ Err f → Refused f ≡ turn_of (drop at b) st
  turn_header f e =
      sym (turn_is ∙ ap (λ (v : Verdict). turned v k (drop at b) st) (judge_header k (L - at) (head_of k (drop at b)) st f (header_is ∙ e)))

  module _ (h : List ℕ) (v : Verdict) (eh : h ≡ head_of k (drop at b)) (ev : v ≡ own_verdict k h st) (p : w ≡ no_fault) where
    own_is : judge_of k (L - at) (head_of k (drop at b)) st ≡ v
    own_is = judge_own k (L - at) (head_of k (drop at b)) st (header_is ∙ p) ∙ ap (λ (x : List ℕ). own_verdict k x st) (sym eh) ∙ sym ev

    pub turn_own : (f : Fault) → v ≡ Err f → Refused f ≡ turn_of (drop at b) st
    turn_own f e = sym (turn_is ∙ ap (λ (v : Verdict). turned v k (drop at b) st) (own_is ∙ e))

    turn_passed : v ≡ no_fault → turn_of (drop at b) st ≡ cond (eqb k 2) Last (Next (total_of k d) (state_after k h st))
    turn_passed e =
        turn_is ∙ ap (λ (v : Verdict). turned v k (drop at b) st) (own_is ∙ e)
        ∙ ap₂ (λ (x : ℕ) (y : List ℕ). cond (eqb k 2) Last (Next (total_of k x) (state_after k y st))) first (sym eh)

    pub turn_last : v ≡ no_fault → k ≡ 2 → Last ≡ turn_of (drop at b) st
    turn_last e q = rw (turn_passed e) (simp (eq-eqb k 2 q))

    pub turn_next : (t : ℕ) (s : State) → v ≡ no_fault → (k ≡ 2 → ⊥) → t ≡ total_of k d → s ≡ state_after k h st → Next t s ≡ turn_of (drop at b) st
    turn_next t s e q et es = rw (turn_passed e) (simp (ne_eqb k 2 q) (ap₂ Next et es))

  -- the same as a step
  pub step_header : (f : Fault) (r : Step) → w ≡ Err f → r ≡ Err (Faulty f) → r ≡ step_of at (turn_of (drop at b) st)
  step_header f r e er = er ∙ ap (step_of at) (turn_header f e)

  module _ (h : List ℕ) (v : Verdict) (eh : h ≡ head_of k (drop at b)) (ev : v ≡ own_verdict k h st) (u : Unit) (p : w ≡ Ok u) where
    pub step_own : (f : Fault) (r : Step) → v ≡ Err f → r ≡ Err (Faulty f) → r ≡ step_of at (turn_of (drop at b) st)
    step_own f r e er = er ∙ ap (step_of at) (turn_own h v eh ev p f e)

    pub step_last : (u' : Unit) → v ≡ Ok u' → k ≡ 2 → Err End ≡ step_of at (turn_of (drop at b) st)
    step_last u' e q = ap (step_of at) (turn_last h v eh ev p e q)

    pub step_next : (u' : Unit) (t : ℕ) (s : State) → v ≡ Ok u' → (k ≡ 2 → ⊥) → t ≡ total_of k d → s ≡ state_after k h st → on (at + t) s ≡ step_of at (turn_of (drop at b) st)
    step_next u' t s e q et es = ap (step_of at) (turn_next h v eh ev p t s e q et es)

  -- the own dwords are there
  pub own_there : w ≡ no_fault → at < L → at + own_dwords k ≤ length b
  own_there p l = let z = own_fits_left k d (L - at) (sym ew ∙ p) in omega arith

pub ruleset turns = (step_header, step_own, step_last, step_next)
