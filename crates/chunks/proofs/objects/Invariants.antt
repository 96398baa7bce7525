use mathlib.Core.Path.{◌≡◌}
use Prim.Native.Nat.{ℕ, ◌-◌}
use mathlib.Core.List.{List}
use lib.ListN.{length}
use Rattle.judge.specs.Refusals.{own_verdict}
use Rattle.progress.specs.Steps.{between}
use Rattle.chunks.specs.Turns.{Kept, Objects}
use Rattle.chunks.proofs.objects.Given as goal

abbrev pub invariant-loop-i : goal.invariant-loop-i
invariant-loop-i l = Kept l.chunk (between l.initial.st l.initial.at) l.initial.i l.initial.records (between l.st l.at) l.i l.records × (l.st.chip ≡ l.initial.st.chip) × (length l.records ≡ length l.initial.records)
    × Objects l.chunk l.initial.st l.t l.d l.i l.to × ((x : List ℕ) → own_verdict 7 x l.st ≡ own_verdict 7 x l.initial.st)
    × (l.i ≡ l.initial.i → l.records ≡ l.initial.records)

abbrev pub decreases-loop-i : goal.decreases-loop-i
decreases-loop-i l = length l.chunk - l.i
