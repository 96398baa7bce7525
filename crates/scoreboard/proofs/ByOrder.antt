-- One law for all that the order check gives back. Assumes nothing.
use mathlib.Core.Logic.{inl, inr}
use mathlib.Core.Path.{refl, subst₂}
use mathlib.Core.List.{List}
use Prim.Native.Nat.{ℕ, ◌/◌, ◌%◌, ◌<◌, ◌≤◌}
use native.Mathlib.Omega.{arith}
use lib.Dec.{ltb, eqb}
use lib.ListN.{length}
use borrow.Author.Tests.{ltb-true, ltb-false}
use Rattle.chips.specs.declared.Target.{Target}
use Rattle.words.specs.Dwords.{dwords_of, put_le}
use Rattle.laws.proofs.Choices.{by_cond, two_cond}
use Rattle.command.specs.Order.{object_count}
use Rattle.reading.specs.Decision.{Scanned, Stopped, Ended}
use Rattle.reading.specs.Reading.{reading_of}
use Rattle.reading.specs.Decision.{decided, decision_of}
use Rattle.reading.proofs.Decided.{by_decided}
use Rattle.reading.proofs.Decisions.{map_decided}
use Rattle.scoreboard.specs.Answers.{objects_in, Result, refused_result, ran_result, accepted_result, order_in, bytes_order_for}
use Rattle.scoreboard.specs.Claims.{TurnedAway, bytes_decision}

-- LAW: what holds of each refusal of the batch by its number, of 20 and of a run, each where it is due, holds of the order check. The
-- decision on the batch comes with it.
module _ {B : Type 0} (put : B → ℕ → ℕ → B) (target : Target) (room : ℕ) (b run : List ℕ) (r : B) (states : List ℕ) (P : Scanned → Result B → Type 0)
    (off : (m p : ℕ) → TurnedAway m → P (Stopped m p) (refused_result r states m p))
    (short : (c d o : ℕ) → length states < length (objects_in target b) → P (Ended c d o) (refused_result r states 20 0))
    (on : (c d o : ℕ) → length (objects_in target b) ≤ length states → P (Ended c d o) (ran_result put target room b run r states)) where
  by_accepted : (c d o : ℕ) → P (Ended c d o) (accepted_result put target room b run r states)
  by_accepted c d o =
      by_cond (P (Ended c d o)) (ltb (length states) (length (objects_in target b))) (refused_result r states 20 0) (ran_result put target room b run r states)
      (λ e. short c d o (ltb-true (length states) (length (objects_in target b)) e)) (λ e. on c d o (ltb-false (length states) (length (objects_in target b)) e))

  abbrev Both : Scanned × Result B → Type 0
  Both x = P x.0 x.1

  abbrev refused : ℕ → ℕ → Scanned × Result B
  refused m p = (Stopped m p, refused_result r states m p)

  abbrev accepted : ℕ → ℕ → Scanned × Result B
  accepted c d = (Ended c d (object_count (reading_of target b).passed), accepted_result put target room b run r states)

  both : Both (decided refused accepted target room b)
  both =
      by_decided Both refused accepted target room b (λ _. off 1 0 (inl (omega arith, omega arith))) (λ m p _ _ l h. off m p (inl (omega arith, omega arith)))
      (λ d _ _ _. off 10 d (inl (omega arith, omega arith))) (λ d _ _ _. by_accepted _ _ _)

  pub by_order : P (decision_of target room b) (order_in put target room b run r states)
  unfolding order_in
  by_order =
      subst₂ P (map_decided (λ (x : Scanned × Result B). x.0) refused accepted target room b) (map_decided (λ (x : Scanned × Result B). x.1) refused accepted target room b) both

-- over bytes: 17 is a refusal too
module _ (target : Target) (b run r states : List ℕ) (P : Scanned → Result (List ℕ) → Type 0)
    (off : (m p : ℕ) → TurnedAway m → P (Stopped m p) (refused_result r states m p))
    (short : (c d o : ℕ) → length states < length (objects_in target (dwords_of b)) → P (Ended c d o) (refused_result r states 20 0))
    (on : (c d o : ℕ) → length (objects_in target (dwords_of b)) ≤ length states → P (Ended c d o) (ran_result put_le target (length r / 4) (dwords_of b) (dwords_of run) r states)) where
  pub by_bytes_order : P (bytes_decision target b run r) (bytes_order_for target b run r states)
  unfolding bytes_order_for
  by_bytes_order =
      two_cond P (eqb (length b % 4) 0) _ _ _ _
      (λ _. two_cond P (eqb (length run % 4) 0) _ _ _ _ (λ _. by_order put_le target (length r / 4) (dwords_of b) (dwords_of run) r states P off short on) (λ _. off 17 (length run / 4) (inr refl)))
      (λ _. off 17 (length b / 4) (inr refl))
