use mathlib.Core.Path.{sym}
use native.Mathlib.Omega.{arith}
use Rattle.event.proofs.Formed.{forward_code, forward_offset}
use Rattle.event.proofs.ByKind.{formed_as}
use Rattle.event.proofs.outcomes.forward_outcome.Goals as goal

pub count-requires : goal.count-requires
count-requires c = forward_code _ _ (formed_as _ _ 2 c.requires.kind_value (sym c.if-is_malformed.ensures))

pub overflow_add-h : goal.overflow_add-h
overflow_add-h c = omega (arith, forward_offset _ _ (formed_as _ _ 2 c.requires.kind_value (sym c.if-is_malformed.ensures)))

pub count-requires-3 : goal.count-requires-3
count-requires-3 c = forward_code _ _ (formed_as _ _ 2 c.requires.kind_value (sym c.if-is_malformed.ensures))

pub overflow_add-h-2 : goal.overflow_add-h-2
overflow_add-h-2 c = omega (arith, forward_offset _ _ (formed_as _ _ 2 c.requires.kind_value (sym c.if-is_malformed.ensures)))
