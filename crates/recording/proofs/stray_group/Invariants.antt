use Rattle.std.proofs.Common.{◌≡◌, ◌-◌, ◌≤◌}
use Rattle.laws.specs.Find.{first_from}
use Rattle.recording.specs.Recording.{stray_group, stray_group_of}
use Rattle.recording.proofs.stray_group.Given as goal

abbrev pub invariant-loop-t : goal.invariant-loop-t
invariant-loop-t l = record {
  within : l.t ≤ l.threads;
  found : first_from (l.threads - l.t) (stray_group l.recording) l.t ≡ stray_group_of l.recording;
}

abbrev pub decreases-loop-t : goal.decreases-loop-t
decreases-loop-t l = l.threads - l.t
