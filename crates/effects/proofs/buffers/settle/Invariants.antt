use mathlib.Core.Path.{◌≡◌}
use Prim.Native.Nat.{◌≤◌, ◌*◌, ◌-◌}
use lib.ListN.{length}
use Rattle.effects.specs.Releases.{with_releases}
use Rattle.effects.proofs.buffers.settle.Given as goal

abbrev pub invariant-loop-t : goal.invariant-loop-t
invariant-loop-t l = record { within : l.t ≤ l.threads; settled : l.counts ≡ with_releases l.t l.groups l.releases l.fn.counts; two : length l.counts ≡ 2 * l.threads }

abbrev pub decreases-loop-t : goal.decreases-loop-t
decreases-loop-t l = l.threads - l.t
