use mathlib.Core.Path.{refl, sym, ◌∙◌}
use Rattle.chunks.proofs.Turns.{header_skip, inside_counts, end_own, end_kind, end_went, first_laws}
use borrow.Author.Rules.{rules}
use Rattle.chunks.proofs.first.Goals as goal

pub own_dwords-h-requires : goal.own_dwords-h-requires
own_dwords-h-requires c = let a = c in (end_own _ _ _ _ a.args.records.now a.requires.0 a.requires.1 _ (search rules) (sym (search rules) ∙ c.kind-k.ensures), (let f = a.requires.0.few in let p = a.requires.1 in search rules), search rules)

pub finish-requires : goal.finish-requires
finish-requires c = let a = c in (inside_counts _ _ _ a.requires.0 refl, end_kind _ _ _ _ a.args.records.now a.requires.0 a.requires.1 _ (search rules) (sym (search rules) ∙ c.kind-k.ensures) _ c.own_dwords-h.ensures)

pub returns-then-k-eq2 : goal.returns-then-k-eq2
returns-then-k-eq2 c = let a = c in end_went _ _ _ _ _ a.requires.0 a.requires.1 _ (search rules) (sym (search rules) ∙ c.kind-k.ensures) _ c.own_dwords-h.ensures _ _ c.finish.ensures

pub halt-requires : goal.halt-requires
halt-requires c = let q = inside_counts _ _ _ c.requires.0 refl in search header_skip

pub returns-in-Err : goal.returns-in-Err
returns-in-Err c = search first_laws
