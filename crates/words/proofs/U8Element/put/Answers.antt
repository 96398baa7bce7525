use Rattle.std.proofs.Common.{rules, arith}
use Rattle.words.proofs.Dwords.{index_bytes, stored_bytes}
use Rattle.words.proofs.U8Element.put.Goals as goal

pub store-requires : goal.store-requires
store-requires c = let m = index_bytes c.args.slice.now c.args.k c.requires in omega arith

pub returns : goal.returns
returns c = stored_bytes c.args.slice.now _ c.args.k c.args.v c.requires c.ranges.v.fits c.store.ensures
