use Rattle.chunks.proofs.Turns.{run_halted, run_done}
use borrow.Author.Rules.{rules}
use Rattle.chunks.proofs.run.Goals as goal

pub returns-else-c-eq0 : goal.returns-else-c-eq0
returns-else-c-eq0 c = run_halted _ _ _ _ _ _ _ c.loop-i.invariant.0 (search rules)

pub returns-after-loop-i : goal.returns-after-loop-i
returns-after-loop-i c = run_done _ _ _ _ _ _ _ c.loop-i.invariant.0 (search rules)
