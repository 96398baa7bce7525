use mathlib.Core.Path.{sym}
use native.Mathlib.Omega.{arith}
use Rattle.event.proofs.Formed.{open_base, open_code}
use Rattle.event.proofs.ByKind.{formed_as}
use Rattle.event.proofs.outcomes.open_outcome.Goals as goal

pub count-requires : goal.count-requires
count-requires c = open_code _ _ (formed_as _ _ 0 c.requires (sym c.if-is_malformed.ensures)) c.if-h-eq1.false

pub overflow_add-h : goal.overflow_add-h
overflow_add-h c = omega (arith, open_base _ _ (formed_as _ _ 0 c.requires (sym c.if-is_malformed.ensures)) c.if-h-eq1.false)
