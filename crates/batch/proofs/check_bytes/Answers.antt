use Rattle.std.proofs.Common.{ap, ◌∙◌}
use Rattle.batch.specs.Answers.{refused_answer}
use Rattle.batch.proofs.Entries.{bytes_unknown_answer, bytes_unknown_records, bytes_known_answer, bytes_known_records}
use Rattle.batch.proofs.check_bytes.Goals as goal

pub returns-in-Err : goal.returns-in-Err
returns-in-Err c =
    let e = c.in-Err.is in (
      bytes_unknown_answer _ _ _ _ _ c.try_from.ensures _ _ e (c.refused.ensures ∙ ap (λ n. refused_answer n 0) c.number.ensures),
      bytes_unknown_records _ _ _ _ _ c.try_from.ensures _ e,
    )

pub returns-in-Ok : goal.returns-in-Ok
returns-in-Ok c =
    (search bytes_known_answer, search bytes_known_records)
