use Rattle.std.proofs.Common.{◌≡◌, ◌∙◌, ◌+◌, ◌<◌, ◌++◌, ◌∷◌, [], sym, ap, length, arith, length-append}
use Rattle.std.specs.Slice.Iter.{chunks_exact_rest, chunks_exact_size}
use Rattle.text.proofs.Pieces.{none}
use Rattle.listing.specs.RecordLines.{record_lines}
use Rattle.listing.proofs.Recorded.{chunk_within, chunk_rest, chunk_named, lines_again}
use Rattle.listing.proofs.lines.Goals as goal

pub loop-record-init : goal.loop-record-init
unfolding record_lines
loop-record-init c =
    let i = c.into_iter-record-iterator.ensures.into_iter_gives in
    let size : chunks_exact_size c.into_iter-record-iterator.result ≡ 16 = ap chunks_exact_size i ∙ c.chunks_exact-record-items.ensures.size in
    record {
      next = omega arith;
      finite = tt;
      size = size;
      within = omega arith;
      rest = ap chunks_exact_rest i ∙ c.chunks_exact-record-items.ensures.rest;
      room = omega arith;
      wrote = none _;
    }

pub line-requires : goal.line-requires
line-requires c =
    let l = c.loop-record.invariant in
    let s = c.in-Some.ensures.steps in
    let e = sym s.1.0 ∙ l.rest in
    let z = s.1.1 ∙ l.size in
    let w : length c.loop-record.yielded < c.args.n = chunk_within _ _ _ (omega arith) _ _ e z in
    (omega arith, chunk_named _ _ _ (omega arith) _ _ e z c.requires.3)

pub loop-record-preserved : goal.loop-record-preserved
loop-record-preserved c =
    let l = c.loop-record.invariant in
    let s = c.in-Some.ensures.steps in
    let e = sym s.1.0 ∙ l.rest in
    let z = s.1.1 ∙ l.size in
    let w : length c.loop-record.yielded < c.args.n = chunk_within _ _ _ (omega arith) _ _ e z in
    let more : length (c.loop-record.yielded ++ c.in-Some.record ∷ []) ≡ length c.loop-record.yielded + 1 = length-append c.loop-record.yielded (c.in-Some.record ∷ []) in
    let size : chunks_exact_size c.next.new.self ≡ 16 = s.0 ∙ l.size in
    rw more (record {
      next = omega arith;
      finite = tt;
      size = size;
      within = omega arith;
      rest = chunk_rest _ c.args.n _ (omega arith) _ _ e z;
      room = omega arith;
      wrote = lines_again _ c.args.n _ (omega arith) _ _ e z _ _ _ (omega arith) l.wrote c.line.ensures.0;
    })
