-- What the steps of the first pass show, over one command or several. Assumes nothing.
use mathlib.Core.Path.{◌≡◌, refl, sym, ap, subst, ◌∙◌}
use mathlib.Core.Bool.{Bool, true, false, not}
use Prim.Native.Nat.{ℕ, suc, ◌+◌, ◌-◌, ◌<◌, ◌≤◌}
use native.Mathlib.Nat.{le_refl}
use native.Mathlib.Omega.{arith}
use mathlib.Core.List.{List, ◌∷◌}
use lib.ListN.{length, get_or, drop}
use lib.Seq.{drop-cons}
use lib.Dec.{ltb, leb, eqb}
use borrow.Author.Tests.{ltb-false, eqb-true, not-true, lt-leb, lt-ltb, le-ltb}
use Rattle.laws.proofs.Choices.{and_left, and_right}
use Rattle.chips.specs.declared.Chip.{Chip}
use Rattle.command.specs.declared.State.{State}
use Rattle.chips.specs.Refusals.{number_of_refusal}
use Rattle.command.specs.Kinds.{kind_of, total_of, head_of, own_dwords}
use Rattle.command.specs.Order.{state_after}
use Rattle.command.proofs.Order.{after_chip}
use Rattle.judge.specs.Refusals.{no_fault, header_verdict, own_verdict, judge_of, Vouches}
use Rattle.judge.proofs.Judged.{passed_header, header_fits, own_fits_left, total_pos}
use Rattle.reading.specs.Decision.{Scanned, Stopped, Ended}
use Rattle.reading.specs.Turns.{Turn, Refused, Last, Next}
use Rattle.std.specs.Prelude.{Some, None, Ok, Err}
use Rattle.judge.specs.declared.Fault.{Fault}
use Rattle.reading.specs.declared.Halt.{Halt}
use Rattle.reading.specs.declared.Halt.TheVariants.{Faulty, End}
use Rattle.reading.specs.declared.Place.{Place}
use Rattle.reading.specs.Turns.{Step}
use Rattle.reading.specs.Turns.{turn_of, scan_from, Within, step_of, found_by, Beyond, Steps, Header, stands_at, Same}
use Rattle.reading.proofs.Verdicts.{by_verdict_lem}
use Rattle.reading.proofs.Turns.{turn_next}
use Rattle.reading.proofs.Scans.{next_bounds, next_less, next_in, next_commands, next_objects, scan_refused, scan_last, scan_next}

-- a command with first dword d stands at a place
module _ (b : List ℕ) (at t d : ℕ) (r : Bool) (er : r ≡ stands_at b at t d) (y : r ≡ true) where
  stands : stands_at b at t d ≡ true
  stands = sym er ∙ y

  pub stands_fits : t ≤ length b - at
  unfolding stands_at
  stands_fits = ltb-false (length b - at) t (not-true (ltb (length b - at) t) (and_left (not (ltb (length b - at) t)) (eqb (get_or b at 0) d) stands))

  pub stands_same : d ≡ get_or b at 0
  unfolding stands_at
  stands_same = sym (eqb-true (get_or b at 0) d (and_right (not (ltb (length b - at) t)) (eqb (get_or b at 0) d) stands))

-- and its negation, as the code finds it
pub stands_not : (b : List ℕ) (L at t d : ℕ) → L ≡ length b → L - at < t → false ≡ stands_at b at t d
unfolding stands_at
stands_not b L at t d el p = simp (lt-ltb (length b - at) t (omega arith))

pub stands_as : (b : List ℕ) (L at t d w : ℕ) → L ≡ length b → t ≤ L - at → w ≡ get_or b at 0 → eqb w d ≡ stands_at b at t d
unfolding stands_at
stands_as b L at t d w el p e = simp (le-ltb (length b - at) t (omega arith), e)

pub stands_under : (b : List ℕ) (L at t d : ℕ) → L ≡ length b → L - at < t → leb t (L - at) ≡ stands_at b at t d
stands_under b L at t d el p = lt-leb t (L - at) p ∙ stands_not b L at t d el p

pub total_one : (k d t : ℕ) → t ≡ total_of k d → 1 ≤ t
total_one k d t e = let p = total_pos k d in omega arith

-- one command more with the same first dword
module _ (b : List ℕ) (L k d at t : ℕ) (c : Chip) (r : Bool) (el : L ≡ length b) (hd : Header c k d) (et : t ≡ total_of k d) (er : r ≡ stands_at b at t d)
    (y : r ≡ true) (q : at ≤ L) where
  there : header_verdict k d (L - at) ≡ no_fault
  there = let z = stands_fits b at t d r er y in header_fits k d (total_of k d) (L - at) hd.allowed (omega arith)

  inside : at < L
  inside = let z = stands_fits b at t d r er y in let p = total_pos k d in omega arith

  pub own_again : at + own_dwords k ≤ length b
  own_again = let z = own_fits_left k d (L - at) there in omega arith

  -- the states before and after it, as the code has them
  module _ (h : List ℕ) (v : Bool) (s s' : State) (eh : h ≡ head_of k (drop at b)) (vouches : Vouches k h s v) (yes : v ≡ true) (es : s' ≡ state_after k h s)
      (ec : s.chip ≡ c) where
    turns : turn_of (drop at b) s ≡ Next t s'
    turns =
        sym (turn_next b L at d k s (header_verdict k d (L - at)) el (stands_same b at t d r er y) (hd.kind ∙ ap (λ (x : Chip). kind_of x d) (sym ec)) refl
        h (own_verdict k h s) eh refl there t s' (vouches.passes yes) hd.goes et es)

    pub again_less : length b - (at + t) < length b - at
    again_less = next_less b L el at s (turn_of (drop at b) s) t s' inside refl turns

    pub again_in : at + t ≤ length b
    again_in = next_in b L el at s (turn_of (drop at b) s) t s' inside refl turns

    pub again_commands : s.commands ≤ at → s'.commands ≤ at + t
    again_commands = next_commands b L el at s (turn_of (drop at b) s) t s' inside refl turns

    pub again_objects : s.objects ≤ at → s'.objects ≤ at + t
    again_objects = next_objects b L el at s (turn_of (drop at b) s) t s' inside refl turns

    pub again_chip : s'.chip ≡ c
    again_chip = ap (λ (x : State). x.chip) es ∙ after_chip k h s ∙ ec

    pub again_scan : (x : Scanned) → scan_from b at s ≡ x → scan_from b (at + t) s' ≡ x
    again_scan x inv = scan_next x b L el at s (turn_of (drop at b) s) inside inv refl t s' turns

pub ruleset again_laws = (again_less, again_in, again_commands, again_objects, again_chip, again_scan)

-- a turn that goes on is at a command whose first dword rows 3 and 4 let pass
abbrev HeaderOf : Chip → ℕ → ℕ → Turn → Type 0
HeaderOf c k d (Refused f) = Unit
HeaderOf c k d Last = Unit
HeaderOf c k d (Next t s) = Header c k d × (s.chip ≡ c)

header_of : (d : ℕ) (ds : List ℕ) (st : State) → HeaderOf st.chip (kind_of st.chip d) d (turn_of (d ∷ ds) st)
unfolding turn_of head_of
header_of d ds st =
    let k = kind_of st.chip d in
    let h = head_of k (d ∷ ds) in
    by_verdict_lem (HeaderOf st.chip k d) k (judge_of k (suc (length ds)) h st) _ _ _ (λ f e. tt) (λ e q. tt)
    (λ e q. (
      record { kind = refl; goes = q; allowed = header_fits k d (suc (length ds)) (total_of k d) (passed_header k (suc (length ds)) h st e) (le_refl (total_of k d)) },
      after_chip k h st,
    ))

header_at : (b : List ℕ) (at : ℕ) (st : State) → at < length b → HeaderOf st.chip (kind_of st.chip (get_or b at 0)) (get_or b at 0) (turn_of (drop at b) st)
header_at b at st p =
    subst (λ (l : List ℕ). HeaderOf st.chip (kind_of st.chip (get_or b at 0)) (get_or b at 0) (turn_of l st)) (sym (drop-cons b at 0 p)) (header_of (get_or b at 0) (drop (suc at) b) st)

-- of a turn that goes on at a place, by its first dword d and the kind n = k that the code found
pub turn_header : (b : List ℕ) (at : ℕ) (st : State) (t : ℕ) (s : State) (d k n : ℕ) → at < length b → d ≡ get_or b at 0 → k ≡ kind_of st.chip d → k ≡ n
    → turn_of (drop at b) st ≡ Next t s → Header s.chip n d
turn_header b at st t s d k n p ed ek en e =
    let h = subst (HeaderOf st.chip (kind_of st.chip (get_or b at 0)) (get_or b at 0)) e (header_at b at st p) in
    let g : Header st.chip n d = subst (λ (x : ℕ). Header st.chip x d) (sym ek ∙ en) (subst (λ (x : ℕ). Header st.chip (kind_of st.chip x) x) (sym ed) h.0) in
    subst (λ (c : Chip). Header c n d) (sym h.1) g

-- w is the turn at a place, by the code
module _ (b : List ℕ) (L at : ℕ) (st : State) (w : Turn) (el : L ≡ length b) (p : at < L) (i : Within b at st) (ew : w ≡ turn_of (drop at b) st) where
  steps_turn : (v : Turn) → w ≡ v → Steps b at st (step_of at v)
  steps_turn (Refused f) e = (scan_refused (scan_from b at st) b L el at st w p refl ew f e, tt)
  steps_turn Last e = (scan_last (scan_from b at st) b L el at st w p refl ew e, tt)
  steps_turn (Next t s) e =
      let z = next_bounds b L el at st w t s p ew e in (
        scan_next (scan_from b at st) b L el at st w p refl ew t s e,
        (omega arith, (next_in b L el at st w t s p ew e, next_commands b L el at st w t s p ew e i.1, next_objects b L el at st w t s p ew e i.2)),
      )

-- a step is that of one turn
module _ (b : List ℕ) (at : ℕ) (st : State) (p : at < length b) (i : Within b at st) (r : Step) (er : r ≡ step_of at (turn_of (drop at b) st)) where
  -- LAW: a step over one command
  pub steps_one : Steps b at st r
  steps_one = subst (Steps b at st) (sym er) (steps_turn b (length b) at st (turn_of (drop at b) st) refl p i refl (turn_of (drop at b) st) refl)

  -- one that goes no further does so as the code hands it on
  pub steps_halt : (h : Halt) (r' : Step) → r ≡ Err h → r' ≡ Err h → Steps b at st r'
  steps_halt h r' e e' = subst (Steps b at st) (e ∙ sym e') steps_one

  module _ (q : Place) (e : r ≡ Ok q) where
    went : (scan_from b q.at q.st ≡ scan_from b at st) × (at + 1 ≤ q.at) × Within b q.at q.st
    went = let z = subst (Steps b at st) e steps_one in (z.0, z.1.0, z.1.1)

    pub step_within : Within b q.at q.st
    step_within = went.2

    -- the commands after it may be those of the same header, where k is the kind of the first dword d
    pub step_header : (d k : ℕ) → d ≡ get_or b at 0 → k ≡ kind_of st.chip d → Header q.st.chip k d
    step_header d k ed ek = header_in (turn_of (drop at b) st) refl (sym er ∙ e)
      where
        header_in : (v : Turn) → turn_of (drop at b) st ≡ v → step_of at v ≡ Ok q → Header q.st.chip k d
        header_in (Refused f) x h = let z : ◌≡◌ {A = ℕ} 0 1 = cc in absurd (omega arith)
        header_in Last x h = let z : ◌≡◌ {A = ℕ} 0 1 = cc in absurd (omega arith)
        header_in (Next t s) x h =
            let z : s ≡ q.st = cc in subst (λ (y : State). Header y.chip k d) z (turn_header b at st t s d k k p ed ek refl x)

    -- LAW: a step over one command, then on over those that start alike
    pub steps_on : (z : Place) → Same b q.at q.st z → Steps b at st (Ok z)
    steps_on z o = (o.0 ∙ went.0, (let y = went.1 in omega arith, o.2))

pub ruleset steps_laws = (steps_one, steps_halt, steps_on)

-- what a step shows, by its case
module _ (b : List ℕ) (at : ℕ) (st : State) (r : Step) (h : Steps b at st r) where
  -- y is what is left to find, and x what is found in all
  module _ (x y : Scanned) (inv : scan_from b at st ≡ y) (whole : y ≡ x) where
    pub found_fault : (f : Fault) → r ≡ Err (Faulty f) → Stopped (number_of_refusal f.refusal) (at + f.skip) ≡ x
    found_fault f e = ap (found_by b at st) (sym e) ∙ h.0 ∙ inv ∙ whole

    pub found_end : r ≡ Err End → Ended (st.commands + 1) (at + 1) st.objects ≡ x
    found_end e = ap (found_by b at st) (sym e) ∙ h.0 ∙ inv ∙ whole

    pub found_on : (q : Place) → r ≡ Ok q → scan_from b q.at q.st ≡ x
    found_on q e = ap (found_by b at st) (sym e) ∙ h.0 ∙ inv ∙ whole

  module _ (q : Place) (e : r ≡ Ok q) where
    goes : (at + 1 ≤ q.at) × Within b q.at q.st
    goes = subst (Beyond b (at + 1)) e h.1

    pub on_less : length b - q.at < length b - at
    on_less = let z = goes.0 in let y = goes.1.0 in omega arith

    pub on_in : q.at ≤ length b
    on_in = goes.1.0

    pub on_commands : q.st.commands ≤ q.at
    on_commands = goes.1.1

    pub on_objects : q.st.objects ≤ q.at
    on_objects = goes.1.2

pub ruleset found_laws = (found_fault, found_end, found_on)

pub ruleset on_laws = (on_less, on_in, on_commands, on_objects)
