-- A batch that passes on both chips has one reading. Assumes nothing.
use mathlib.Core.Path.{◌≡◌, refl, sym, ap, subst, ◌∙◌}
use mathlib.Core.Bool.{Bool, true, false, cond}
use Prim.Native.Nat.{ℕ, zero, suc, ◌+◌, ◌-◌}
use mathlib.Core.List.{List, [], ◌∷◌}
use lib.ListN.{length}
use lib.Dec.{eqb}
use Rattle.chips.specs.declared.Chip.TheVariants.{Gen6, Gen7}
use Rattle.chips.specs.declared.Target.{Target}
use Rattle.chips.specs.Chips.{target_of}
use Rattle.command.specs.Kinds.{kind_of, head_of}
use Rattle.command.specs.Order.{Command, state_of}
use Rattle.command.proofs.Heads.{one_kind}
use Rattle.std.specs.Prelude.{Ok, Err}
use Rattle.judge.specs.Refusals.{Verdict, no_fault, judge_of}
use Rattle.judge.proofs.Judged.{passed_header, passed_known}
use Rattle.reading.specs.Reading.{ended, Whole, Reading, reading, and_then, command_at, after_verdict, read, reading_of}
use Rattle.reading.specs.BothChips.{BothChips}

-- only a command that passes leaves a batch whole
whole_passed : (v : Verdict) (c : Command) (rest : Reading) → Whole (after_verdict v c rest).stop → v ≡ no_fault
whole_passed (Err f) c rest w = absurd w
whole_passed (Ok u) c rest w = refl

-- END, or a command and rests that are one where they are whole
same_rest : (t : Bool) (c : Command) (end r r' : Reading) → (Whole r.stop → Whole r'.stop → r ≡ r')
    → Whole (cond t end (and_then c r)).stop → Whole (cond t end (and_then c r')).stop → cond t end (and_then c r) ≡ cond t end (and_then c r')
same_rest true c end r r' same w w' = refl
same_rest false c end r r' same w w' = ap (and_then c) (same w w')

module _ (capacity : ℕ) where
  abbrev six : Target
  six = target_of Gen6 capacity

  abbrev seven : Target
  seven = target_of Gen7 capacity

  -- one command, and the rest
  module _ (d : ℕ) (ds : List ℕ) (at : ℕ) (cs : List Command) (ih : (n a : ℕ) (xs : List Command)
      → Whole (read six ds n a xs).stop → Whole (read seven ds n a xs).stop → read six ds n a xs ≡ read seven ds n a xs) where
    abbrev at_command : Target → Command
    at_command t = command_at (kind_of t.chip d) (d ∷ ds) at (state_of t cs)

    abbrev verdict : Target → Verdict
    verdict t = judge_of (kind_of t.chip d) (suc (length ds)) (at_command t).head (state_of t cs)

    abbrev after : Target → Command → Reading
    after t c = read t ds (c.total - 1) (at + 1) (c ∷ cs)

    abbrev here : Target → Reading
    here t = after_verdict (verdict t) (at_command t) (after t (at_command t))

    passed : (t : Target) → Whole (here t).stop → verdict t ≡ no_fault
    passed t w = whole_passed (verdict t) (at_command t) (after t (at_command t)) w

    one_command : Whole (here seven).stop → at_command six ≡ at_command seven
    unfolding state_of head_of
    one_command w =
        let k = kind_of Gen7 d in
        let n = suc (length ds) in
        let known = passed_known k d n (passed_header k n (head_of k (d ∷ ds)) (state_of seven cs) (passed seven w)) in
        ap (λ (k : ℕ). command_at k (d ∷ ds) at (state_of seven cs)) (one_kind d known)

    -- what a command that passes leaves
    abbrev then : Target → Command → Reading
    then t c = after_verdict no_fault c (after t c)

    is_then : (t : Target) → Whole (here t).stop → here t ≡ then t (at_command t)
    is_then t w = ap (λ (v : Verdict). after_verdict v (at_command t) (after t (at_command t))) (passed t w)

    one : Whole (here six).stop → Whole (here seven).stop → here six ≡ here seven
    one w w' =
        let c = at_command seven in
        let p = is_then six w ∙ ap (then six) (one_command w') in
        let q = is_then seven w' in
        p
        ∙ same_rest (eqb c.kind 2) c (reading (c ∷ []) (ended (c.place + 1))) (after six c) (after seven c) (ih (c.total - 1) (at + 1) (c ∷ cs))
        (subst (λ (r : Reading). Whole r.stop) p w) (subst (λ (r : Reading). Whole r.stop) q w')
        ∙ sym q

  both : (l : List ℕ) (n at : ℕ) (cs : List Command) → Whole (read six l n at cs).stop → Whole (read seven l n at cs).stop
      → read six l n at cs ≡ read seven l n at cs
  unfolding read
  both [] n at cs w w' = absurd w
  both (d ∷ ds) (suc n) at cs w w' = both ds n (at + 1) cs w w'
  both (d ∷ ds) zero at cs w w' = one d ds at cs (both ds) w w'

-- LAW
pub both_chips : BothChips
unfolding reading_of
both_chips capacity b w w' = both capacity b 0 0 [] w w'
