use Rattle.std.proofs.Common.{rules}
use Rattle.objects.proofs.Numbers.{walk_first, walk_in, walk_number, walk_next, walk_there}
use Rattle.objects.proofs.walk.Objects.record_of.Goals as goal

pub overflow_add-r : goal.overflow_add-r
overflow_add-r g c =
    let p = c.requires in
    let o = c.args.self.now in
    search (rules, walk_in _ _ _ _ p.2 (walk_first _ _ _ _ _ p.2 p.0 p.1), o.recorded.limit)

pub step_to-m-requires : goal.step_to-m-requires
step_to-m-requires g c =
    let o = c.args.self.now in
    let h = c.requires.2 in
    (walk_in _ _ _ _ h c.loop-k.invariant, walk_number _ _ _ _ h c.loop-k.invariant o.numbered)

pub returns-then-m-eq0 : goal.returns-then-m-eq0
returns-then-m-eq0 g c =
    let o = c.args.self.now in
    let h = c.requires.2 in
    walk_there _ _ _ _ h c.loop-k.invariant o.numbered _ c.step_to-m.ensures c.if-m-eq0.true

pub overflow_add-r-in-loop-k : goal.overflow_add-r-in-loop-k
overflow_add-r-in-loop-k g c =
    let o = c.args.self.now in
    let h = c.requires.2 in
    search (rules, walk_in _ _ _ _ h (walk_next _ _ _ _ h c.loop-k.invariant o.numbered _ c.step_to-m.ensures), o.recorded.limit)

pub loop-k-init : goal.loop-k-init
loop-k-init g c =
    let p = c.requires in
    walk_first _ _ _ _ _ p.2 p.0 p.1

pub loop-k-preserved : goal.loop-k-preserved
loop-k-preserved g c =
    let o = c.args.self.now in
    walk_next _ _ _ _ c.requires.2 c.loop-k.invariant o.numbered _ c.step_to-m.ensures
