use Rattle.std.proofs.Common.{rules, arith}
use Rattle.words.proofs.Dwords.{index_bytes, word_bytes}
use Rattle.words.proofs.U8Element.word.Goals as goal

pub overflow_mul-i : goal.overflow_mul-i
overflow_mul-i c = let m = index_bytes c.args.slice.now c.args.i c.requires in search rules

pub le-requires : goal.le-requires
le-requires c = index_bytes c.args.slice.now c.args.i c.requires

pub returns : goal.returns
returns c = word_bytes c.args.slice.now c.args.i _ c.requires c.le.ensures
