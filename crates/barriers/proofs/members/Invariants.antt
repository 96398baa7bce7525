use mathlib.Core.Path.{◌≡◌}
use Prim.Native.Nat.{◌≤◌, ◌-◌}
use Rattle.barriers.specs.Barriers.{member_mask, masks}
use Rattle.barriers.proofs.members.Given as goal

abbrev pub invariant-loop-t : goal.invariant-loop-t
invariant-loop-t l = record { within : l.t ≤ l.threads; seen : l.members ≡ masks (member_mask l.t l.groups) }

abbrev pub decreases-loop-t : goal.decreases-loop-t
decreases-loop-t l = l.threads - l.t
