use mathlib.Core.Path.{◌≡◌}
use Prim.Native.Nat.{◌≤◌, ◌-◌}
use lib.ListN.{replicate}
use Rattle.laws.specs.Filled.{filled}
use Rattle.gateway.specs.Replay.{empty_barrier}
use Rattle.gateway.proofs.Loops.{joined}
use Rattle.gateway.proofs.answer.barriers.Given as goal

abbrev pub invariant-loop-b : goal.invariant-loop-b
invariant-loop-b l = record { within : l.b ≤ 16; so_far : l.barriers ≡ filled (joined l.bytes l.waiting) l.b (replicate 16 empty_barrier) }

abbrev pub decreases-loop-b : goal.decreases-loop-b
decreases-loop-b l = 16 - l.b
