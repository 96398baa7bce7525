use Rattle.std.proofs.Common.{◌≡◌, ap, ◌∙◌, ℕ, ◌+◌, ◌-◌, drop, arith}
use Rattle.std.proofs.Math.Seq.{paste}
use Rattle.forwards.proofs.Stores.{put_before_eights}
use Rattle.forwards.proofs.blocks.put_back_before.Goals as goal

pub returns : goal.returns
returns c =
    let a = c.args in
    let q = a.at - 16 in
    let e : q + 16 ≡ a.at = omega arith in
    put_before_eights a.registers.now q a.event.now a.count (16 - a.count) (omega arith) (omega arith) (omega arith)
    c.load_eight-data.ensures
    c.load_eight-data_8.ensures
    c.load_eight-before.ensures
    c.load_eight-before_8.ensures
    c.store_eight.ensures
    c.store_eight-2.ensures
    c.store_eight-3.ensures
    c.store_eight-4.ensures
    ∙ ap (λ (k : ℕ). paste a.registers.now k (drop 16 a.event.now) a.count) e
