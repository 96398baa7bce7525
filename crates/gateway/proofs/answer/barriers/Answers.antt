use mathlib.Core.List.{List}
use native.Mathlib.Omega.{arith}
use native.Mathlib.Nat.{le_antisymm}
use mathlib.Core.Path.{refl, ap, ◌∙◌}
use Prim.Native.Nat.{ℕ}
use lib.ListN.{set, replicate}
use Rattle.laws.specs.Filled.{filled}
use Rattle.laws.proofs.Filled.{filled_turn}
use Rattle.gateway.specs.declared.Barrier.{Barrier}
use Rattle.gateway.specs.Replay.{empty_barrier}
use Rattle.gateway.specs.Steps.{barriers_from}
use Rattle.gateway.proofs.Loops.{joined}
use Rattle.gateway.proofs.answer.barriers.Goals as goal

pub loop-b-init : goal.loop-b-init
unfolding filled
loop-b-init c = record { within = omega arith; so_far = refl }

pub loop-b-preserved : goal.loop-b-preserved
loop-b-preserved c =
    let l = c.loop-b in
    let f = joined c.args.bytes c.args.waiting in
    record {
      within = omega arith;
      so_far = ap (λ (m : List Barrier). set m l.b (f l.b)) l.invariant.so_far ∙ filled_turn f (replicate 16 empty_barrier) l.b;
    }

pub returns : goal.returns
unfolding barriers_from
returns c =
    let l = c.loop-b in
    l.invariant.so_far
    ∙ ap (λ (n : ℕ). filled (joined c.args.bytes c.args.waiting) n (replicate 16 empty_barrier)) (le_antisymm l.invariant.within c.loop-b-test.false)
