-- An event whose outcome is 0 does what its kind does. Assumes nothing.
use mathlib.Core.Path.{◌≡◌, ap, ◌∙◌}
use mathlib.Core.Bool.{Bool}
use mathlib.Core.List.{List, ◌∷◌}
use Prim.Native.Nat.{ℕ}
use Rattle.laws.proofs.Rows.{none_decides}
use Rattle.event.specs.declared.Head.{Head}
use Rattle.event.specs.declared.Setup.{Setup}
use Rattle.event.specs.declared.Gateway.{Gateway}
use Rattle.event.specs.Outcomes.{when, malformed, rule_rows, accepted, decided_of, decision_of, outcome_of}

module _ (h : Head) (s : Setup) (g : Gateway) (ws : List Bool) where
  pub passed : outcome_of (decision_of h s g ws) ≡ 0 → decision_of h s g ws ≡ accepted h.kind h s g ws
  unfolding decision_of decided_of outcome_of
  passed o = none_decides outcome_of (accepted h.kind h s g ws) (when 31 (malformed h.kind h s.threads) ∷ rule_rows h.kind h s g ws) tt o

  -- by its kind
  pub passed_as : (k : ℕ) → h.kind ≡ k → outcome_of (decision_of h s g ws) ≡ 0 → decision_of h s g ws ≡ accepted k h s g ws
  passed_as k e o = passed o ∙ ap (λ (m : ℕ). accepted m h s g ws) e
