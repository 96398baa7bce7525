-- A decision whose outcome is not 0 leaves all as it was. Assumes nothing.
use mathlib.Core.Path.{◌≡◌, refl}
use mathlib.Core.Bool.{Bool}
use mathlib.Core.List.{List}
use Prim.Native.Nat.{ℕ}
use Rattle.event.specs.declared.Setup.{Setup}
use Rattle.event.specs.declared.Gateway.{Gateway}
use Rattle.event.specs.Decision.{Decision, Refused, OpenOrClose, Forward, Wait, Release, Update}
use Rattle.event.specs.Outcomes.{outcome_of}
use Rattle.effects.specs.Effects.{gateways_after, bytes_after, waits_after, counts_after, forwarded}

-- what every refusal leaves so, a decision whose outcome is not 0 leaves so
pub refusal : {A : Type 0} (f : Decision → A) (a : A) → ((n : ℕ) → f (Refused n) ≡ a) → (d : Decision) → (outcome_of d ≡ 0 → ⊥) → f d ≡ a
unfolding outcome_of
refusal f a r (Refused n) o = r n
refusal f a r (OpenOrClose t g) o = absurd (o refl)
refusal f a r (Forward t b n m) o = absurd (o refl)
refusal f a r (Wait t) o = absurd (o refl)
refusal f a r (Release g) o = absurd (o refl)
refusal f a r (Update b v) o = absurd (o refl)

module _ (d : Decision) (o : outcome_of d ≡ 0 → ⊥) where
  pub same_gateways : (gs : List Gateway) → gateways_after d gs ≡ gs
  unfolding gateways_after
  same_gateways gs = refusal (λ (x : Decision). gateways_after x gs) gs (λ _. refl) d o

  pub same_bytes : (bs : List ℕ) → bytes_after d bs ≡ bs
  unfolding bytes_after
  same_bytes bs = refusal (λ (x : Decision). bytes_after x bs) bs (λ _. refl) d o

  pub same_waits : (s : Setup) (ws : List Bool) → waits_after d s ws ≡ ws
  unfolding waits_after
  same_waits s ws = refusal (λ (x : Decision). waits_after x s ws) ws (λ _. refl) d o

  pub same_counts : (s : Setup) (cs : List ℕ) → counts_after d s cs ≡ cs
  unfolding counts_after
  same_counts s cs = refusal (λ (x : Decision). counts_after x s cs) cs (λ _. refl) d o

  pub same_registers : (ev rs : List ℕ) → forwarded d ev rs ≡ rs
  unfolding forwarded
  same_registers ev rs = refusal (λ (x : Decision). forwarded x ev rs) rs (λ _. refl) d o
