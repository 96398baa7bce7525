use Prim.Native.Nat.{◌≤◌}
use mathlib.Core.Path.{◌≡◌}
use Rattle.words.specs.Dwords.{lent_buffer, put_in}
use Rattle.records.specs.Records.{put_words}
use Rattle.records.proofs.put.Given as goal

abbrev pub invariant-loop-f : goal.invariant-loop-f
invariant-loop-f g l =
    let e = g.B.Element in
    (l.f ≤ 16)
    × (lent_buffer e.dwords l.records ≡ put_words (put_in e.stored) (lent_buffer e.dwords l.initial.records) l.i l.w l.f)
