use Rattle.std.proofs.Common.{◌≡◌, ◌++◌, ◌-◌, ◌≤◌, take, drop, replicate}
use Rattle.recording.proofs.groups.Given as goal

abbrev pub invariant-loop-t : goal.invariant-loop-t
invariant-loop-t l = record {
  within : l.t ≤ l.threads;
  groups : l.groups ≡ take l.t (drop 10 l.recording) ++ replicate (16 - l.t) 255;
}

abbrev pub decreases-loop-t : goal.decreases-loop-t
decreases-loop-t l = l.threads - l.t
