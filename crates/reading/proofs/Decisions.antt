-- One decision, whatever is given back for it. Assumes nothing.
use mathlib.Core.Path.{◌≡◌, refl, sym, ap, ap₂, subst⁻¹, ◌∙◌}
use mathlib.Core.Bool.{Bool, true, false, cond}
use Prim.Native.Nat.{ℕ, ◌*◌, ◌/◌, ◌<◌, ◌≤◌}
use native.Mathlib.Omega.{arith}
use mathlib.Core.List.{List}
use lib.ListN.{length}
use lib.Dec.{ltb}
use borrow.Author.Tests.{lt-ltb, le-ltb}
use Rattle.chips.specs.declared.Target.{Target}
use Rattle.command.specs.Order.{Command, object_count}
use Rattle.reading.specs.Decision.{Scanned, Stopped, Ended}
use Rattle.reading.specs.Reading.{Stop, ended, stopped, Whole, reading_of}
use Rattle.reading.specs.Decision.{at_stop, decided, decision_of, scanned, scan_of}
use Rattle.reading.proofs.Decided.{by_decided}

-- a function of what is given back for a decision
module _ {A B : Type 0} (f : A → B) (refused accepted : ℕ → ℕ → A) where
  map-cond : (t : Bool) (x y : A) → f (cond t x y) ≡ cond t (f x) (f y)
  map-cond true x y = refl
  map-cond false x y = refl

  map_stop : (room n : ℕ) (s : Stop) → f (at_stop refused accepted room n s) ≡ at_stop (λ m p. f (refused m p)) (λ c d. f (accepted c d)) room n s
  map_stop room n (stopped m p) = refl
  map_stop room n (ended d) = map-cond (ltb room (16 * n)) (refused 10 d) (accepted n d)

  pub map_decided : (target : Target) (room : ℕ) (b : List ℕ) → f (decided refused accepted target room b) ≡ decided (λ m p. f (refused m p)) (λ c d. f (accepted c d)) target room b
  unfolding decided
  map_decided target room b =
      let n = length (reading_of target b).passed in
      let s = (reading_of target b).stop in
      map-cond (ltb 16384 (length b)) (refused 1 0) (at_stop refused accepted room n s) ∙ ap (cond (ltb 16384 (length b)) (f (refused 1 0))) (map_stop room n s)

-- what is given back, from the decision
module _ {A : Type 0} (refused accepted : ℕ → ℕ → A) where
  abbrev given : Scanned → A
  given (Stopped m p) = refused m p
  given (Ended c d o) = accepted c d

  given_decided : (target : Target) (room : ℕ) (b : List ℕ) → given (decision_of target room b) ≡ decided refused accepted target room b
  given_decided target room b = map_decided given Stopped (λ c d. Ended c d (object_count (reading_of target b).passed)) target room b

  module _ (target : Target) (room : ℕ) (b : List ℕ) (w : Scanned) (ew : w ≡ decision_of target room b) where
    given_of : (v : Scanned) → w ≡ v → given v ≡ decided refused accepted target room b
    given_of v e = ap given (sym e ∙ ew) ∙ given_decided target room b

    pub by_refusal : (m p : ℕ) (r : A) → w ≡ Stopped m p → r ≡ refused m p → r ≡ decided refused accepted target room b
    by_refusal m p r e q = q ∙ given_of (Stopped m p) e

    pub by_success : (c d o : ℕ) (r : A) → w ≡ Ended c d o → r ≡ accepted c d → r ≡ decided refused accepted target room b
    by_success c d o r e q = q ∙ given_of (Ended c d o) e

-- what `decide` shows
pub decide_long : (target : Target) (room L : ℕ) (b : List ℕ) → L ≡ length b → 16384 < L → Stopped 1 0 ≡ decision_of target room b
unfolding decided
decide_long target room L b e p = let q : 16384 < length b = omega arith in simp (lt-ltb 16384 (length b) q)

scan_stopped : (n o : ℕ) (s : Stop) (m p : ℕ) → scanned n o s ≡ Stopped m p → s ≡ stopped m p
scan_stopped n o (ended d) m p e = let z : ◌≡◌ {A = ℕ} 0 1 = cc in absurd (omega arith)
scan_stopped n o (stopped m' p') m p e = let z : m' ≡ m = cc in let y : p' ≡ p = cc in ap₂ stopped z y

scan_ended : (n o : ℕ) (s : Stop) (c d q : ℕ) → scanned n o s ≡ Ended c d q → (n ≡ c) × (o ≡ q) × (s ≡ ended d)
scan_ended n o (ended d') c d q e = let z : d' ≡ d = cc in ((cc), (cc), ap ended z)
scan_ended n o (stopped m p) c d q e = let z : ◌≡◌ {A = ℕ} 0 1 = cc in absurd (omega arith)

module _ (target : Target) (room L : ℕ) (b : List ℕ) (w : Scanned) (el : L ≡ length b) (p : L ≤ 16384) (ew : w ≡ scan_of target b) where
  short : ltb 16384 (length b) ≡ false
  short = le-ltb 16384 (length b) (omega arith)

  pub decide_stopped : (m q : ℕ) → w ≡ Stopped m q → Stopped m q ≡ decision_of target room b
  unfolding decided scan_of
  decide_stopped m q e =
      let cs = (reading_of target b).passed in
      let s = scan_stopped (length cs) (object_count cs) (reading_of target b).stop m q (sym ew ∙ e) in simp (short, s)

  module _ (c d o : ℕ) (e : w ≡ Ended c d o) where
    ends : (length (reading_of target b).passed ≡ c) × (object_count (reading_of target b).passed ≡ o) × ((reading_of target b).stop ≡ ended d)
    unfolding scan_of
    ends = let cs = (reading_of target b).passed in scan_ended (length cs) (object_count cs) (reading_of target b).stop c d o (sym ew ∙ e)

    pub decide_small : room / 16 < c → Stopped 10 d ≡ decision_of target room b
    unfolding decided
    decide_small q = let r : room < 16 * c = omega arith in simp (short, ends.0, ends.1, ends.2, lt-ltb room (16 * c) r)

    pub decide_room : c ≤ room / 16 → Ended c d o ≡ decision_of target room b
    unfolding decided
    decide_room q = let r : 16 * c ≤ room = omega arith in simp (short, ends.0, ends.1, ends.2, le-ltb room (16 * c) r)

pub ruleset decisions = (decide_long, decide_stopped, decide_small, decide_room)

-- what the second pass may count on
module _ (target : Target) (room : ℕ) (b : List ℕ) (w : Scanned) (c d o : ℕ) (ew : w ≡ decision_of target room b) (e : w ≡ Ended c d o) where
  abbrev cs : List Command
  cs = (reading_of target b).passed

  abbrev Fits : Scanned → Type 0
  Fits x = x ≡ Ended c d o → (length b ≤ 16384) × Whole (reading_of target b).stop × (16 * length cs ≤ room) × (length cs ≡ c) × (object_count cs ≡ o)

  not_ended : (m p : ℕ) → Fits (Stopped m p)
  not_ended m p h = let z : ◌≡◌ {A = ℕ} 0 1 = cc in absurd (omega arith)

  all_fit : Fits (decision_of target room b)
  all_fit =
      by_decided Fits Stopped (λ c d. Ended c d (object_count cs)) target room b (λ l. not_ended 1 0) (λ m p l s g h. not_ended m p)
      (λ d l s r. not_ended 10 d) (λ d l s r h. (l, subst⁻¹ Whole s tt, r, (cc), (cc)))

  pub fits_limit : length b ≤ 16384
  fits_limit = (all_fit (sym ew ∙ e)).0

  pub fits_whole : Whole (reading_of target b).stop
  fits_whole = (all_fit (sym ew ∙ e)).1

  pub fits_records : 16 * length cs ≤ room
  fits_records = (all_fit (sym ew ∙ e)).2

  pub fits_commands : length cs ≡ c
  fits_commands = (all_fit (sym ew ∙ e)).3

  pub fits_objects : object_count cs ≡ o
  fits_objects = (all_fit (sym ew ∙ e)).4

pub ruleset fits = (fits_limit, fits_whole)
