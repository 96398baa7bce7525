use Rattle.std.proofs.Common.{rules, refl}
use Rattle.runs.proofs.RunTurns.{judged_ok, object_known, sound_next, turn_next}
use Rattle.runs.proofs.events.run.Goals as goal

pub bounds-states-e : goal.bounds-states-e
bounds-states-e g c =
    let j = judged_ok _ _ _ _ _ _ c.judge.ensures c.in-Ok.is in
    object_known _ _ _ _ j.0 _ _ c.requires.0 (search (rules, c.requires)) refl

pub loop-i-preserved : goal.loop-i-preserved
loop-i-preserved g c =
    let j = judged_ok _ _ _ _ _ _ c.judge.ensures c.in-Ok.is in
    let s = c.state_left.ensures in (
      search rules,
      sound_next _ _ _ _ j.0 _ _ _ _ s j.1 refl,
      turn_next _ _ _ _ _ _ c.held-end.ensures c.loop-i.invariant.2 _ _ c.loop-i-test.true c.word-e.ensures j.0 _ s refl,
    )
