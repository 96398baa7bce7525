use mathlib.Core.Path.{◌≡◌}
use Prim.Native.Nat.{◌≤◌, ◌-◌}
use lib.ListN.{replicate}
use Rattle.laws.specs.Filled.{filled}
use Rattle.event.specs.Gateways.{closed}
use Rattle.effects.specs.Gateways.{gateway_in}
use Rattle.gateway.proofs.answer.gateways.Given as goal

abbrev pub invariant-loop-t : goal.invariant-loop-t
invariant-loop-t l = record { within : l.t ≤ 16; so_far : l.gateways ≡ filled (gateway_in l.words) l.t (replicate 16 closed) }

abbrev pub decreases-loop-t : goal.decreases-loop-t
decreases-loop-t l = 16 - l.t
