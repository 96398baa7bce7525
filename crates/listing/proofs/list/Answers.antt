use Rattle.std.proofs.Common.{refl, ap, arith}
use Rattle.text.specs.Lines.{refused_line}
use Rattle.text.proofs.Pieces.{then, known_as}
use Rattle.listing.proofs.Outcomes.{text_long, text_odd, text_even, whole_text}
use Rattle.listing.proofs.list.Goals as goal

pub returns-then-input-gt4096 : goal.returns-then-input-gt4096
returns-then-input-gt4096 c =
    whole_text _ _ _ refl (known_as (text_long _ _ c.if-input-gt4096.true) (then (omega arith) c.put.ensures (known_as (ap (λ n. refused_line n 0) c.number.ensures) c.refused.ensures.0)))

pub returns-then-input-ne0 : goal.returns-then-input-ne0
returns-then-input-ne0 c =
    whole_text _ _ _ refl (known_as (text_odd _ _ c.if-input-gt4096.false c.if-input-ne0.true) (then (omega arith) c.put.ensures c.odd.ensures.0))

pub returns : goal.returns
returns c =
    whole_text _ _ _ refl (known_as (text_even _ _ c.if-input-gt4096.false c.if-input-ne0.false) (then (omega arith) c.put.ensures c.outcome.ensures.0))
