use Rattle.std.proofs.Common.{ap, ◌∙◌, length, ◌/◌}
use Rattle.batch.specs.Answers.{refused_answer}
use Rattle.batch.proofs.Entries.{odd_answer, odd_records, even_answer, even_records}
use Rattle.batch.proofs.check_bytes_for.Goals as goal

pub returns-then-batch-ne0 : goal.returns-then-batch-ne0
returns-then-batch-ne0 c =
    let q = c.if-batch-ne0.true in
    (odd_answer _ _ _ q _ (c.refused.ensures ∙ ap (λ n. refused_answer n (length c.args.batch.now / 4)) c.number.ensures), odd_records _ _ _ q)

pub returns : goal.returns
returns c =
    let q = c.if-batch-ne0.false in
    (even_answer _ _ _ q _ c.check_for.ensures.0, even_records _ _ _ q _ c.check_for.ensures.1)
