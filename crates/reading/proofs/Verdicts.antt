-- What a verdict leads to: a fault's, END's or any other command's. Assumes nothing.
use mathlib.Core.Path.{◌≡◌, refl}
use Prim.Native.Nat.{ℕ}
use lib.Dec.{eqb}
use borrow.Author.Tests.{eqb-true, eqb-false}
use Rattle.laws.proofs.Choices.{two_cond}
use Rattle.std.specs.Prelude.{Ok, Err}
use Rattle.judge.specs.declared.Fault.{Fault}
use Rattle.judge.specs.Refusals.{Verdict, no_fault}
use Rattle.reading.specs.Reading.{by_verdict}

-- LAW: what holds of both at a fault, at END and at any other command, each where it is due, holds of both by a verdict
pub by_verdicts : {A B : Type 0} (R : A → B → Type 0) (k : ℕ) (v : Verdict) (f : Fault → A) (e n : A) (f' : Fault → B) (e' n' : B)
    → ((x : Fault) → v ≡ Err x → R (f x) (f' x)) → (v ≡ no_fault → k ≡ 2 → R e e') → (v ≡ no_fault → (k ≡ 2 → ⊥) → R n n')
    → R (by_verdict f e n k v) (by_verdict f' e' n' k v)
by_verdicts R k (Err x) f e n f' e' n' p q r = p x refl
by_verdicts R k (Ok u) f e n f' e' n' p q r =
    two_cond R (eqb k 2) e n e' n' (λ t. q refl (eqb-true k 2 t)) (λ t. r refl (eqb-false k 2 t))

-- LAW: the same of one
pub by_verdict_lem : {A : Type 0} (P : A → Type 0) (k : ℕ) (v : Verdict) (f : Fault → A) (e n : A)
    → ((x : Fault) → v ≡ Err x → P (f x)) → (v ≡ no_fault → k ≡ 2 → P e) → (v ≡ no_fault → (k ≡ 2 → ⊥) → P n) → P (by_verdict f e n k v)
by_verdict_lem P k v f e n p q r = by_verdicts (λ x y. P x) k v f e n f e n p q r
