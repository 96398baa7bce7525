use mathlib.Core.Path.{◌≡◌}
use Prim.Native.Nat.{◌-◌}
use lib.ListN.{length}
use Rattle.effects.specs.Releases.{counts_in}
use Rattle.gateway.specs.Replay.{start_over}
use Rattle.gateway.specs.Steps.{held}
use Rattle.gateway.proofs.Loops.{AtEvent}
use Rattle.gateway.proofs.run.run.Given as goal

abbrev pub invariant-loop-i : goal.invariant-loop-i
invariant-loop-i l =
    record {
      kept : AtEvent l.recording l.setup l.events (start_over l.fn.registers l.fn.counts l.fn.outcomes) (held l.gateways l.waiting l.bytes l.registers (counts_in l.setup l.releases l.counts)) l.outcomes l.i;
      sixteen : length l.releases ≡ 16;
      counts_long : length l.counts ≡ length l.fn.counts;
    }

abbrev pub decreases-loop-i : goal.decreases-loop-i
decreases-loop-i l = l.events - l.i
