use Rattle.std.proofs.Common.{rules, refl, ◌∙◌}
use Rattle.records.proofs.Places.{same_left, some_left, some_more, some_header, some_records, some_rest, then_more_of}
use Rattle.records.proofs.record_all.Goals as goal

pub again-requires : goal.again-requires
again-requires g c =
    let r = c.record_as.ensures in (
      same_left g.B.Element.dwords g.met.B.Element.by_length _ _ _ _ _ (search rules) (some_left _ _ _ _ _ c.in_ok-next.was r.1),
      some_header _ _ _ _ c.in_ok-next.was r.2,
    )

pub returns : goal.returns
returns g c =
    let r = c.record_as.ensures in
    let a = c.again.ensures in (
      some_rest _ _ _ _ _ (a.0 ∙ some_records _ _ _ _ _ _ _ r.0 c.in_ok-next.was refl),
      then_more_of _ _ _ _ _ (some_more _ _ _ _ _ c.in_ok-next.was r.1) a.1 (same_left g.B.Element.dwords g.met.B.Element.by_length _ _ _ _ _ (search rules) a.2),
    )
