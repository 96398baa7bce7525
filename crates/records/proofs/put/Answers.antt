use borrow.Author.Rules.{rules}
use Rattle.records.proofs.RecordWords.{words_laws, words_none}
use Rattle.records.proofs.put.Goals as goal

pub loop-f-init : goal.loop-f-init
loop-f-init g c = (search rules, words_none _ _ _ _)

pub loop-f-preserved : goal.loop-f-preserved
loop-f-preserved g c = (search rules, search words_laws)
