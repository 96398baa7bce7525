use Rattle.std.proofs.Common.{drop, arith, length-drop}
use Rattle.forwards.proofs.Stores.{stored_data, put_back_eights}
use Rattle.forwards.proofs.blocks.put_back_behind.Goals as goal

pub returns-then-registers-end-lt32 : goal.returns-then-registers-end-lt32
returns-then-registers-end-lt32 c =
    let a = c.args in
    stored_data a.registers.now a.at (drop 16 a.event.now) a.count (omega arith) _ _ c.load-data.ensures c.store.ensures

pub returns : goal.returns
returns c =
    let a = c.args in
    put_back_eights a.registers.now a.at (drop 16 a.event.now) a.count (omega arith) (omega arith) (simp length-drop (omega arith))
    c.load-data.ensures
    c.load_eight-behind.ensures
    c.load_eight-behind_8.ensures
    c.load_eight-behind_16.ensures
    c.load_eight-behind_24.ensures
    c.store-2.ensures
    c.store_eight.ensures
    c.store_eight-2.ensures
    c.store_eight-3.ensures
    c.store_eight-4.ensures
