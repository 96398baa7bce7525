use Rattle.std.proofs.Common.{◌≡◌, ◌+◌, ◌*◌, ◌≤◌, length, take, drop}
use Rattle.std.specs.Slice.Iter.{chunks_exact_rest, chunks_exact_size}
use Rattle.text.specs.Writing.{Wrote}
use Rattle.listing.specs.RecordLines.{record_lines}
use Rattle.listing.proofs.lines.Given as goal

abbrev pub invariant-loop-record : goal.invariant-loop-record
invariant-loop-record l = record {
  next : (goal.iterator-loop-record).can_next l.record-iterator;
  finite : (goal.iterator-loop-record).is_finite l.record-iterator;
  size : chunks_exact_size l.record-iterator ≡ 16;
  within : length l.yielded ≤ l.n;
  rest : chunks_exact_rest l.record-iterator ≡ drop (16 * length l.yielded) (take (16 * l.n) l.records);
  room : l.page.at ≤ l.initial.page.at + 46 * length l.yielded;
  wrote : Wrote l.initial.page (record_lines l.records (length l.yielded)) l.page;
}
