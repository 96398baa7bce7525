use native.Mathlib.Omega.{arith}
use Rattle.feed.proofs.Feeds.{part_ready, taken_is, over_small, over_taken}
use Rattle.feed.proofs.take.Goals as goal

pub pass_over-requires : goal.pass_over-requires
pass_over-requires c = let a = c in let w = c.in_inline_data.ensures c.if-in_inline_data.true in let z = over_small _ _ _ a.requires w in let y = w.read in (omega arith, omega arith)

pub returns-then-in_inline_data : goal.returns-then-in_inline_data
returns-then-in_inline_data c = let a = c in let w = c.in_inline_data.ensures c.if-in_inline_data.true in over_taken _ _ _ _ a.requires w _ c.pass_over.ensures

pub read_through-p-requires : goal.read_through-p-requires
read_through-p-requires c = part_ready c.args.target c.args.c c.args.chunk.now _ c.readable-n.ensures c.requires _ c.resume.ensures

pub returns : goal.returns
returns c = taken_is c.args.target c.args.c c.args.chunk.now _ c.readable-n.ensures c.requires _ _ _ _ _ _ c.resume.ensures c.read_through-p.ensures c.counted.ensures c.carry.ensures
