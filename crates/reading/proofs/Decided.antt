-- What holds of all that a decision gives back, by the rule that decides. Assumes nothing.
use mathlib.Core.Path.{◌≡◌, refl, ap₂}
use mathlib.Core.Bool.{cond}
use mathlib.Core.List.{List}
use Prim.Native.Nat.{ℕ, ◌*◌, ◌/◌, ◌%◌, ◌<◌, ◌≤◌}
use lib.Dec.{ltb, eqb}
use lib.ListN.{length}
use borrow.Author.Tests.{ltb-true, ltb-false}
use Rattle.chips.specs.declared.Target.{Target}
use Rattle.laws.proofs.Choices.{by_cond}
use Rattle.reading.specs.Reading.{Stop, ended, stopped, reading_of}
use Rattle.reading.specs.Decision.{at_stop, decided, whole_dwords}
use Rattle.reading.proofs.Numbers.{ReadNumber, read_number}

-- LAW: what holds of 1, of 2 to 9 as reading stopped, of 10 and of success, each where it is due, holds of the decision
module _ {A : Type 0} (P : A → Type 0) (refused accepted : ℕ → ℕ → A) (target : Target) (room : ℕ) (b : List ℕ)
    (long : 16384 < length b → P (refused 1 0))
    (faulty : (m p : ℕ) → length b ≤ 16384 → (reading_of target b).stop ≡ stopped m p → 2 ≤ m → m ≤ 9 → P (refused m p))
    (full : (d : ℕ) → length b ≤ 16384 → (reading_of target b).stop ≡ ended d → room < 16 * length (reading_of target b).passed → P (refused 10 d))
    (taken : (d : ℕ) → length b ≤ 16384 → (reading_of target b).stop ≡ ended d → 16 * length (reading_of target b).passed ≤ room
    → P (accepted (length (reading_of target b).passed) d)) where
  abbrev n : ℕ
  n = length (reading_of target b).passed

  by_stop : length b ≤ 16384 → (s : Stop) → (reading_of target b).stop ≡ s → ReadNumber s → P (at_stop refused accepted room n s)
  by_stop l (stopped m p) e h = faulty m p l e h.0 h.1
  by_stop l (ended d) e h =
      by_cond P (ltb room (16 * n)) (refused 10 d) (accepted n d) (λ t. full d l e (ltb-true room (16 * n) t)) (λ t. taken d l e (ltb-false room (16 * n) t))

  pub by_decided : P (decided refused accepted target room b)
  unfolding decided
  by_decided =
      let s = (reading_of target b).stop in
      by_cond P (ltb 16384 (length b)) (refused 1 0) (at_stop refused accepted room n s) (λ t. long (ltb-true 16384 (length b) t))
      (λ t. by_stop (ltb-false 16384 (length b) t) s refl (read_number target b))

-- LAW: bytes of one length go by rule 17 alike
pub whole_same : {A : Type 0} (refused : ℕ → ℕ → A) (bytes bytes' : List ℕ) (given given' : A) → length bytes ≡ length bytes' → given ≡ given'
    → whole_dwords refused bytes given ≡ whole_dwords refused bytes' given'
whole_same refused bytes bytes' given given' = ap₂ (λ (n : ℕ) (a : _). cond (eqb (n % 4) 0) a (refused 17 (n / 4)))
