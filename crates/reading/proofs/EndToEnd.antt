-- The reading of a batch is its commands laid end to end up to where reading stops, and nothing else is. Assumes nothing.
use mathlib.Core.Path.{◌≡◌, refl, sym, ap, ap₂, subst, subst₂, ◌∙◌}
use mathlib.Core.Bool.{Bool, cond}
use Prim.Native.Nat.{ℕ, zero, suc, ◌+◌, ◌-◌, ◌<◌, ◌≤◌}
use native.Mathlib.Nat.{add-zero}
use native.Mathlib.Omega.{arith}
use mathlib.Core.List.{List, [], ◌∷◌}
use lib.ListN.{length, get_or, drop, length-drop}
use lib.Seq.{drop-drop}
use lib.Dec.{ltb}
use borrow.Author.Tests.{ltb-true, ltb-false, eq-eqb, ne_eqb}
use Rattle.chips.specs.declared.Target.{Target}
use Rattle.laws.proofs.Choices.{by_test, not_both}
use Rattle.command.specs.declared.State.{State}
use Rattle.command.specs.Kinds.{kind_of, length_field, length_allowed, total_of, head_of}
use Rattle.command.specs.Order.{Command, state_of, state_after}
use Rattle.std.specs.Prelude.{Err}
use Rattle.chips.specs.Refusals.{number_of_refusal}
use Rattle.judge.specs.Refusals.{Verdict, no_fault, header_verdict, judge_of}
use Rattle.command.proofs.Heads.{none_allowed, kind_eight}
use Rattle.command.proofs.Order.{state_after_lem}
use Rattle.judge.proofs.Judged.{total_pos, passed_header, passed_length, passed_fits}
use Rattle.reading.specs.Reading.{Stop, ended, stopped, Reading, reading, and_then, command_at, read, reading_of}
use Rattle.reading.specs.Turns.{Last, Next, walk, turned, turn_of}
use Rattle.reading.specs.Vfes.{command_number}
use Rattle.reading.specs.EndToEnd.{command_in, verdict_in, Stands, EndToEnd, used_up, faulty, last, next}
use Rattle.reading.proofs.Verdicts.{by_verdict_lem}
use Rattle.reading.proofs.Walk.{read_walk, then, turn_at, walk_end}

-- past the table's kinds no length field is allowed
known_kind : (k d left : ℕ) → header_verdict k d left ≡ no_fault → k < 9
known_kind k d left e =
    by_test (ltb k 9) (ltb-true k 9)
    (λ t. let l = ltb-false k 9 t in
    absurd (not_both (length_allowed k (length_field d)) (passed_length k d left e)
    (sym (none_allowed k (λ q. omega arith) (λ q. omega arith) (λ q. omega arith) (λ q. omega arith) (λ q. omega arith) (λ q. omega arith) (length_field d) (omega arith)))))

-- the command at a place, where its verdict lets it pass, stands there
pub stands_at : (target : Target) (b : List ℕ) (cs : List Command) (at : ℕ) → at < length b → verdict_in target b cs at ≡ no_fault
    → Stands target b cs at (command_in target b cs at)
unfolding head_of state_of
stands_at target b cs at p v =
    let l = drop at b in
    let d = get_or l 0 0 in
    let k = kind_of target.chip d in
    let hv = passed_header k (length l) (head_of k l) (state_of target cs) v in
    let t = passed_fits k d (length l) hv in
    let n = length-drop at b in
    record {
      is = refl;
      faultless = v;
      whole = omega arith;
      known = known_kind k d (length l) hv;
      gateway_state = kind_eight target.chip d;
    }

-- d is the first dword at a place, ds the dwords after it
module _ (target : Target) (b : List ℕ) (cs : List Command) (at d : ℕ) (ds : List ℕ) (e : drop at b ≡ d ∷ ds) where
  abbrev st : State
  st = state_of target cs

  abbrev c : Command
  c = command_at (kind_of target.chip d) (d ∷ ds) at st

  abbrev verdict : Verdict
  verdict = judge_of (kind_of target.chip d) (suc (length ds)) (head_of (kind_of target.chip d) (d ∷ ds)) st

  inside : length b ≡ at + suc (length ds)
  inside = let n : length b - at ≡ suc (length ds) = sym (length-drop at b) ∙ ap length e in omega arith

  verdict_is : verdict_in target b cs at ≡ verdict
  verdict_is = ap (λ (l : List ℕ). judge_of (kind_of target.chip (get_or l 0 0)) (length l) (head_of (kind_of target.chip (get_or l 0 0)) l) st) e

  stands : verdict ≡ no_fault → Stands target b cs at c
  stands v =
      let n = inside in
      subst (Stands target b cs at) (ap (λ (l : List ℕ). command_at (kind_of target.chip (get_or l 0 0)) l at st) e)
      (stands_at target b cs at (omega arith) (verdict_is ∙ v))

-- n counts the dwords that the last command still has
laid : (target : Target) (b l : List ℕ) (n at : ℕ) (cs : List Command) → drop at b ≡ l → at + n ≤ length b
    → EndToEnd target b cs (at + n) (read target l n at cs).passed (read target l n at cs).stop
unfolding read
laid target b [] n at cs e h =
    let q : length b - at ≡ 0 = sym (length-drop at b) ∙ ap length e in
    let p : length b ≡ at + n = omega arith in
    let r : length b ≡ at = omega arith in
    subst₂ (λ (x y : ℕ). EndToEnd target b cs x [] (stopped 2 y)) p r used_up
laid target b (d ∷ ds) (suc n) at cs e h =
    let q : at + 1 + n ≡ at + suc n = omega arith in
    subst (λ (a : ℕ). EndToEnd target b cs a (read target ds n (at + 1) cs).passed (read target ds n (at + 1) cs).stop) q
    (laid target b ds n (at + 1) cs (sym (drop-drop 1 at b) ∙ ap (drop 1) e) (omega arith))
laid target b (d ∷ ds) zero at cs e h =
    let k = kind_of target.chip d in
    let c = command_at k (d ∷ ds) at (state_of target cs) in
    let n = inside target b cs at d ds e in
    let z : at ≡ at + 0 = omega arith in
    let t = total_pos k d in
    by_verdict_lem (λ (r : Reading). EndToEnd target b cs (at + 0) r.passed r.stop) k (verdict target b cs at d ds e) _ _ _
    (λ f v. subst (λ (a : ℕ). EndToEnd target b cs a [] (stopped (number_of_refusal f.refusal) (at + f.skip))) z
    (faulty (omega arith) (verdict_is target b cs at d ds e ∙ v)))
    (λ v q. subst (λ (a : ℕ). EndToEnd target b cs a (c ∷ []) (ended (at + 1))) z (last (omega arith) (stands target b cs at d ds e v) q))
    (λ v q. let r = read target ds (c.total - 1) (at + 1) (c ∷ cs) in
    let s = stands target b cs at d ds e v in
    let w = s.whole in
    let y : at + 1 + (c.total - 1) ≡ at + c.total = omega arith in
    subst (λ (a : ℕ). EndToEnd target b cs a (c ∷ r.passed) r.stop) z
    (next (omega arith) s q
    (subst (λ (a : ℕ). EndToEnd target b (c ∷ cs) a r.passed r.stop) y
    (laid target b ds (c.total - 1) (at + 1) (c ∷ cs) (sym (drop-drop 1 at b) ∙ ap (drop 1) e) (omega arith)))))

-- LAW: the commands passed of any batch lie end to end up to where reading stopped
pub reading_laid : (target : Target) (b : List ℕ) → EndToEnd target b [] 0 (reading_of target b).passed (reading_of target b).stop
unfolding reading_of
reading_laid target b =
    subst (λ (a : ℕ). EndToEnd target b [] a (read target b 0 0 []).passed (read target b 0 0 []).stop) (add-zero 0) (laid target b b 0 0 [] refl (omega arith))

-- A place of the batch, by the verdict on the command there.
module _ (target : Target) (b : List ℕ) (cs : List Command) (at : ℕ) (p : at < length b) where
  abbrev l : List ℕ
  l = drop at b

  abbrev k : ℕ
  k = kind_of target.chip (get_or l 0 0)

  by_turn : (v : Verdict) → verdict_in target b cs at ≡ v → read target l 0 at cs ≡ then (turned v k l (state_of target cs)) l at (state_of target cs)
  unfolding turn_of state_of
  by_turn v e =
      let st = state_of target cs in
      read_walk target l 0 at cs ∙ turn_at b at st p ∙ ap (λ (x : Verdict). then (turned x k l st) l at st) e

  module _ (c : Command) (s : Stands target b cs at c) where
    same_kind : k ≡ c.kind
    same_kind = ap (λ (x : Command). x.kind) (sym s.is)

    at_last : c.kind ≡ 2 → read target l 0 at cs ≡ reading (c ∷ []) (ended (at + 1))
    unfolding state_of
    at_last q =
        by_turn no_fault s.faultless
        ∙ ap (λ (t : Bool). then (cond t Last (Next (total_of k (get_or l 0 0)) (state_after k (head_of k l) (state_of target cs)))) l at (state_of target cs))
        (eq-eqb k 2 (same_kind ∙ q))
        ∙ ap (λ (x : Command). reading (x ∷ []) (ended (at + 1))) (sym s.is)

    at_next : (c.kind ≡ 2 → ⊥) → read target l 0 at cs ≡ and_then c (read target (drop (at + c.total) b) 0 (at + c.total) (c ∷ cs))
    unfolding state_of
    at_next n =
        let x = command_in target b cs at in
        by_turn no_fault s.faultless
        ∙ ap (λ (t : Bool). then (cond t Last (Next (total_of k (get_or l 0 0)) (state_after k (head_of k l) (state_of target cs)))) l at (state_of target cs))
        (ne_eqb k 2 (λ q. n (sym same_kind ∙ q)))
        ∙ ap₂ (λ (y : List ℕ) (z : State). and_then x (walk y 0 (at + x.total) z)) (drop-drop x.total at b) (sym (state_after_lem target x cs))
        ∙ ap (and_then x) (sym (read_walk target (drop (at + x.total) b) 0 (at + x.total) (x ∷ cs)))
        ∙ ap (λ (y : Command). and_then y (read target (drop (at + y.total) b) 0 (at + y.total) (y ∷ cs))) (sym s.is)

only : (target : Target) (b : List ℕ) {cs : List Command} {at : ℕ} {xs : List Command} {stop : Stop} → EndToEnd target b cs at xs stop
    → read target (drop at b) 0 at cs ≡ reading xs stop
only target b (used_up {cs}) = read_walk target (drop (length b) b) 0 (length b) cs ∙ walk_end b (length b) (state_of target cs) (omega arith)
only target b (faulty {cs} {at} {f} p v) = by_turn target b cs at p (Err f) v
only target b (last {cs} {at} {c} p s q) = at_last target b cs at p c s q
only target b (next {cs} {at} {c} p s n r) = at_next target b cs at p c s n ∙ ap (and_then c) (only target b r)

-- LAW: no other commands do
pub laid_reading : (target : Target) (b : List ℕ) (xs : List Command) (stop : Stop) → EndToEnd target b [] 0 xs stop → reading_of target b ≡ reading xs stop
unfolding reading_of
laid_reading target b xs stop r = only target b r

-- every command of the list is of a kind of the table
each_known : (target : Target) (b : List ℕ) {cs : List Command} {at : ℕ} {xs : List Command} {stop : Stop} → EndToEnd target b cs at xs stop
    → (i : ℕ) → i < length xs → (command_number xs i).kind < 9
each_known target b used_up i h = absurd (omega arith)
each_known target b (faulty p v) i h = absurd (omega arith)
each_known target b (last p s q) zero h = s.known
each_known target b (last p s q) (suc i) h = absurd (omega arith)
each_known target b (next p s n r) zero h = s.known
each_known target b (next p s n r) (suc i) h = each_known target b r i (omega arith)

-- LAW: every command passed is of kind 0 to 8
pub kinds_known : (target : Target) (b : List ℕ) (i : ℕ) → i < length (reading_of target b).passed → (command_number (reading_of target b).passed i).kind < 9
kinds_known target b = each_known target b (reading_laid target b)
