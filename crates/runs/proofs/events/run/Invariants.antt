use Rattle.std.proofs.Common.{◌≡◌, length, drop}
use Rattle.runs.specs.Run.{run_from}
use Rattle.objects.specs.Recorded.{objects_recorded}
use Rattle.runs.specs.Starts.{SoundCursors}
use Rattle.runs.proofs.events.run.Given as goal

abbrev pub invariant-loop-i : goal.invariant-loop-i
invariant-loop-i g l =
    let d = g.T.Element.dwords l.objects.records.now in
    let events = g.E.Element.dwords l.events in
    let objects = objects_recorded d l.objects.commands in
    (length l.states ≡ length l.initial.states)
    × SoundCursors d l.objects.commands l.states l.c
    × (run_from objects (drop l.i events) l.i l.states ≡ run_from objects events 0 l.initial.states)
