use mathlib.Core.Path.{◌≡◌}
use mathlib.Core.List.{◌++◌}
use Prim.Native.Nat.{◌≤◌, ◌-◌}
use lib.ListN.{length, drop, replicate}
use Rattle.gateway.proofs.clear.Given as goal

abbrev pub invariant-loop-i : goal.invariant-loop-i
invariant-loop-i l = record { within : l.i ≤ length l.fn.counts; cleared : l.counts ≡ replicate l.i 0 ++ drop l.i l.fn.counts; long : length l.counts ≡ length l.fn.counts }

abbrev pub decreases-loop-i : goal.decreases-loop-i
decreases-loop-i l = length l.fn.counts - l.i
