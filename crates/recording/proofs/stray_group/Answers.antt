use Rattle.std.proofs.Common.{sym, ap, ◌∙◌, ℕ, arith}
use Rattle.laws.specs.Find.{find_first}
use Rattle.laws.proofs.Find.{hit, miss, over, start}
use Rattle.recording.specs.Recording.{stray_group, stray_group_of}
use Rattle.recording.proofs.Header.{stray, none_stray, low_stray}
use Rattle.recording.proofs.stray_group.Goals as goal
use Rattle.recording.proofs.stray_group.Goals.{then-group-gt15+else-group, else-group-gt15}

pub loop-t-init : goal.loop-t-init
unfolding stray_group_of
loop-t-init c =
    let a = c.args in
    let f = stray_group a.recording.now in
    record { within = omega arith; found = start f a.threads ∙ ap (λ (n : ℕ). find_first n f) c.requires.0 }

pub returns-then-group : goal.returns-then-group
returns-then-group c =
    let l = c.loop-t in
    let a = c.args in
    sym (hit (stray_group a.recording.now) a.threads l.t (omega arith) (stray a.recording.now l.t c.if-group-gt15.true c.if-group.true))
    ∙ l.invariant.found

pub loop-t-preserved : goal.loop-t-preserved
loop-t-preserved c =
    let l = c.loop-t in
    let a = c.args in
    let f = stray_group a.recording.now in
    record {
      within = omega arith;
      found =
          elim c.if-group-gt15.branch [
            | then-group-gt15+else-group w ↦ sym (miss f a.threads l.t (omega arith) (none_stray a.recording.now l.t w.if-group-gt15.true w.if-group.false)) ∙ l.invariant.found
            | else-group-gt15 w ↦ sym (miss f a.threads l.t (omega arith) (low_stray a.recording.now l.t w.if-group-gt15.false)) ∙ l.invariant.found
          ];
    }

pub returns : goal.returns
returns c =
    let a = c.args in
    sym (over (stray_group a.recording.now) a.threads c.loop-t.t (omega arith)) ∙ c.loop-t.invariant.found
