use Rattle.std.proofs.Common.{sym, ap, ◌∙◌}
use Rattle.words.specs.Dwords.{lent_buffer}
use Rattle.reading.specs.Decision.{decision_of}
use Rattle.batch.proofs.Entries.{accepted_fits, accepted_done, refused_done}
use Rattle.batch.proofs.check_for.Goals as goal
use Rattle.batch.proofs.check_for.Goals.{then-is_ok, else-is_ok}

pub fill-requires : goal.fill-requires
fill-requires g c =
    let e = g.T.Element in
    accepted_fits e.stored e.dwords _ _ _ _ (c.decide-decision.ensures ∙ ap (λ n. decision_of c.args.target n (e.dwords c.args.batch.now)) c.held.ensures)
    (sym c.is_ok.ensures.value ∙ c.if-is_ok.true)

pub returns : goal.returns
returns g c =
    let e = g.T.Element in
    let d = c.decide-decision.ensures ∙ ap (λ n. decision_of c.args.target n (e.dwords c.args.batch.now)) c.held.ensures in
    elim c.if-is_ok.branch [
      | then-is_ok w ↦ accepted_done e.stored e.dwords _ _ _ _ _ _ d (sym c.is_ok.ensures.value ∙ w.if-is_ok.true) c.answered.ensures
          (ap (lent_buffer e.dwords) w.records-is ∙ w.fill.ensures)
      | else-is_ok w ↦ refused_done e.stored e.dwords _ _ _ _ _ _ d (sym c.is_ok.ensures.value ∙ w.if-is_ok.false) c.answered.ensures w.records-is
    ]
