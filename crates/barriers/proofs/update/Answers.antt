use mathlib.Core.Path.{sym, ap, ◌∙◌}
use native.Mathlib.Omega.{arith}
use Rattle.event.specs.Decision.{Decision}
use Rattle.event.specs.ByKind.{decision_alone}
use Rattle.effects.specs.Effects.{bytes_after}
use Rattle.effects.proofs.Refused.{same_bytes}
use Rattle.barriers.proofs.Messages.{updated, update_below}
use Rattle.barriers.proofs.update.Goals as goal

pub returns-then-number-ne0 : goal.returns-then-number-ne0
returns-then-number-ne0 c =
    let a = c.args in
    let e = c.update_outcome-number.ensures in
    (e, sym (same_bytes (decision_alone a.h a.setup) (λ z. c.if-number-ne0.true (e ∙ z)) a.bytes.now))

pub offset_bounds-bytes-barrier : goal.offset_bounds-bytes-barrier
offset_bounds-bytes-barrier c =
    omega (arith, update_below c.args.h c.args.setup c.requires.0 (sym c.update_outcome-number.ensures ∙ c.if-number-ne0.false))

pub bounds-bytes-barrier : goal.bounds-bytes-barrier
bounds-bytes-barrier c =
    omega (arith, update_below c.args.h c.args.setup c.requires.0 (sym c.update_outcome-number.ensures ∙ c.if-number-ne0.false))

pub returns : goal.returns
unfolding bytes_after
returns c =
    let a = c.args in
    let o = sym c.update_outcome-number.ensures ∙ c.if-number-ne0.false in
    (sym o, ap (λ (d : Decision). bytes_after d a.bytes.now) (sym (updated a.h a.setup c.requires.0 o)))
