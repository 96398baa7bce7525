use Rattle.std.proofs.Common.{ap, ◌∙◌}
use Rattle.batch.specs.Answers.{refused_answer}
use Rattle.batch.proofs.Entries.{unknown_answer, unknown_records, dwords_answer, dwords_records}
use Rattle.batch.proofs.check.Goals as goal

pub returns-in-Err : goal.returns-in-Err
returns-in-Err c =
    let e = c.in-Err.is in (
      unknown_answer _ _ _ _ _ c.try_from.ensures _ _ e (c.refused.ensures ∙ ap (λ n. refused_answer n 0) c.number.ensures),
      unknown_records _ _ _ _ _ c.try_from.ensures _ e,
    )

pub returns-in-Ok : goal.returns-in-Ok
returns-in-Ok c =
    let w = c.check_for.ensures in
    (dwords_answer _ _ _ _ _ c.try_from.ensures _ _ c.in-Ok.is w.0, dwords_records _ _ _ _ _ c.try_from.ensures _ _ c.in-Ok.is w.1)
