use native.Mathlib.Omega.{arith}
use mathlib.Core.Path.{refl, sym, ap, ◌∙◌}
use Prim.Native.Nat.{ℕ, ◌*◌}
use lib.ListN.{get_or, length-set}
use Rattle.event.proofs.Groups.{group_read}
use Rattle.effects.specs.Releases.{with_releases}
use Rattle.effects.proofs.ReleaseLaws.{releases_long, settled_sum, settled_turn}
use Rattle.effects.proofs.buffers.settle.Goals as goal

pub loop-t-init : goal.loop-t-init
unfolding with_releases
loop-t-init c =
    let a = c.args in
    record { within = omega arith; settled = refl; two = sym (releases_long a.setup.groups a.releases.now a.counts.now a.setup.threads) ∙ c.requires.2.two }

pub overflow_add-counts : goal.overflow_add-counts
overflow_add-counts c =
    let a = c.args in
    let p = c.requires in
    let l = c.loop-t in
    omega (
      arith,
      settled_sum a.setup.groups a.releases.now a.counts.now l.t l.invariant.settled
          (c.releases_of.ensures ∙ ap (λ (g : ℕ). get_or a.releases.now g 0) (group_read a.setup l.t p.0.all (omega arith))) a.setup.threads (omega arith)
          (omega (arith, releases_long a.setup.groups a.releases.now a.counts.now a.setup.threads, p.2.two)),
      p.2.low (2 * l.t),
    )

pub loop-t-preserved : goal.loop-t-preserved
loop-t-preserved c =
    let a = c.args in
    let p = c.requires in
    let l = c.loop-t in
    record {
      within = omega arith;
      settled =
          settled_turn a.setup.groups a.releases.now a.counts.now l.t l.invariant.settled
          (c.releases_of.ensures ∙ ap (λ (g : ℕ). get_or a.releases.now g 0) (group_read a.setup l.t p.0.all (omega arith)));
      two = simp length-set (omega arith);
    }
