use Rattle.std.proofs.Common.{refl, sym, ◌∙◌}
use Rattle.records.proofs.Fills.{start_left, start_records}
use Rattle.records.proofs.Places.{same_left, some_left, some_less, some_records, none_records}
use Rattle.records.proofs.fill.Goals as goal

pub loop-next-init : goal.loop-next-init
loop-next-init g c = (start_left _ _ _ c.start-st.ensures _ c.requires, refl)

pub record_at-requires : goal.record_at-requires
record_at-requires g c = same_left g.B.Element.dwords g.met.B.Element.by_length _ _ _ _ _ c.loop-next.auto.records c.loop-next.invariant.0

pub loop-next-smaller : goal.loop-next-smaller
loop-next-smaller g c = some_less _ _ _ _ _ c.in-Some.is _ refl c.record_at.ensures.1

pub loop-next-preserved : goal.loop-next-preserved
loop-next-preserved g c =
    let w = c.record_at.ensures in (
      same_left g.B.Element.dwords g.met.B.Element.by_length _ _ _ _ _ (sym c.loop-next.auto.records) (some_left _ _ _ _ _ c.in-Some.is w.1),
      some_records _ _ _ _ _ _ _ w.0 c.in-Some.is c.loop-next.invariant.1,
    )

pub returns : goal.returns
returns g c =
    none_records _ _ _ _ _ _ c.record_at.ensures.0 c.in_default.is (c.loop-next.invariant.1 ∙ start_records _ _ _ c.start-st.ensures _ _)
