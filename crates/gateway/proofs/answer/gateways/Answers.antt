use native.Mathlib.Omega.{arith}
use native.Mathlib.Nat.{le_antisymm}
use mathlib.Core.Path.{refl, sym, ap, ◌∙◌}
use Prim.Native.Nat.{ℕ}
use lib.ListN.{set, replicate}
use Rattle.laws.specs.Filled.{filled}
use Rattle.laws.proofs.Filled.{filled_turn}
use Rattle.event.specs.Gateways.{closed}
use Rattle.effects.specs.Gateways.{gateway_in, gateways_in}
use Rattle.effects.proofs.GatewayWords.{gateway_at_lem}
use Rattle.gateway.proofs.answer.gateways.Goals as goal

pub loop-t-init : goal.loop-t-init
unfolding filled
loop-t-init c = record { within = omega arith; so_far = refl }

pub loop-t-preserved : goal.loop-t-preserved
loop-t-preserved c =
    let l = c.loop-t in
    let words = c.args.words in
    record {
      within = omega arith;
      so_far =
          (λ j. set (l.invariant.so_far j) l.t ((c.gateway.ensures ∙ sym (gateway_at_lem words l.t (omega arith))) j))
          ∙ filled_turn (gateway_in words) (replicate 16 closed) l.t;
    }

pub returns : goal.returns
unfolding gateways_in
returns c =
    let l = c.loop-t in
    l.invariant.so_far ∙ ap (λ (n : ℕ). filled (gateway_in c.args.words) n (replicate 16 closed)) (le_antisymm l.invariant.within c.loop-t-test.false)
