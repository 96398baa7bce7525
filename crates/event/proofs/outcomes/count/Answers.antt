use native.Mathlib.Omega.{arith}
use native.Mathlib.Nat.{one-mul}
use mathlib.Core.Path.{◌≡◌, ◌∙◌}
use Prim.Native.Nat.{◌*◌, ◌^◌, ◌%◌}
use lib.Dec.{lit<}
use lib.Pow.{shl_exact, pow_mono}
use Rattle.event.proofs.outcomes.count.Goals as goal

pub returns : goal.returns
returns c =
    let e : (1 * 2 ^ c.args.code) % 2 ^ 32 ≡ 2 ^ c.args.code = shl_exact {a = 1} 1 c.args.code 32 (lit< tt) (omega arith) ∙ one-mul (2 ^ c.args.code) in
    (e, rw e (pow_mono {i = c.args.code} {j = 5} c.requires))
