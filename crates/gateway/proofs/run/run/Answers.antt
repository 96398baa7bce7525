use mathlib.Core.Path.{refl, ap, ◌∙◌}
use native.Mathlib.Omega.{arith}
use Prim.Native.Nat.{◌+◌, ◌*◌}
use Rattle.effects.specs.Effects.{CountRoom}
use Rattle.effects.specs.Releases.{counts_in}
use Rattle.effects.specs.Gateways.{gateways_in}
use Rattle.effects.proofs.ReleaseLaws.{releases_long, release_room}
use Rattle.gateway.specs.Replay.{World, start_over}
use Rattle.gateway.proofs.Bounds.{start_windows, met_windows, run_low}
use Rattle.gateway.proofs.Loops.{at_start, step_turn, part_is, part_long}
use Rattle.gateway.proofs.run.run.Goals as goal

pub loop-i-init : goal.loop-i-init
loop-i-init c =
    let a = c.args in
    record {
      kept = at_start a.recording.now a.setup a.events a.registers.now a.counts.now a.outcomes.now c.requires.grouped;
      sixteen = refl;
      counts_long = refl;
    }

pub step-requires : goal.step-requires
step-requires c =
    let a = c.args in
    let p = c.requires in
    let l = c.loop-i in
    let v = l.invariant in
    let w₀ : World = start_over a.registers.now a.counts.now a.outcomes.now in
    let room : CountRoom a.setup (counts_in a.setup l.releases l.counts) =
    record {
      two = releases_long a.setup.groups l.releases l.counts a.setup.threads ∙ v.counts_long ∙ p.two;
      low =
          run_low a.recording.now a.setup w₀ p.clear l.i (counts_in a.setup l.releases l.counts) (ap (λ (w : World). w.counts) v.kept.so_far)
          (omega (arith, v.kept.most, p.most));
    } in
    record {
      event = part_long a.recording.now (10 + a.setup.threads + 48 * l.i) (omega (arith, c.loop-i-test.true, p.whole));
      four = v.kept.all_gateways;
      windows = met_windows a.recording.now a.setup l.i w₀ (gateways_in l.gateways) start_windows (ap (λ (w : World). w.state.gateways) v.kept.so_far);
      rest =
          record {
            grouped = p.grouped;
            own_groups = refl;
            masked = record { own_members = c.members-members.ensures; own_waiting = v.kept.masks };
            sixteen = v.kept.all_bytes;
            own = v.kept.registers_long ∙ p.own;
            room = release_room a.setup l.releases l.counts room v.sixteen;
          };
      room = room;
    }

pub loop-i-preserved : goal.loop-i-preserved
loop-i-preserved c =
    let a = c.args in
    let l = c.loop-i in
    let v = l.invariant in
    let long = c.step.auto in
    record {
      kept =
          step_turn a.recording.now a.setup a.events (start_over a.registers.now a.counts.now a.outcomes.now) _ v.kept c.loop-i-test.true
          (part_is a.recording.now a.setup.threads l.i c.requires.same) c.step.ensures long.gateways long.bytes long.registers;
      sixteen = long.releases ∙ v.sixteen;
      counts_long = long.counts ∙ v.counts_long;
    }

pub settle-requires : goal.settle-requires
settle-requires c =
    let a = c.args in
    let p = c.requires in
    let l = c.loop-i in
    let v = l.invariant in
    let w₀ : World = start_over a.registers.now a.counts.now a.outcomes.now in (
      p.grouped,
      v.sixteen,
      record {
        two = releases_long a.setup.groups l.releases l.counts a.setup.threads ∙ v.counts_long ∙ p.two;
        low =
            run_low a.recording.now a.setup w₀ p.clear l.i (counts_in a.setup l.releases l.counts) (ap (λ (w : World). w.counts) v.kept.so_far)
            (omega (arith, v.kept.most, p.most));
      },
    )
