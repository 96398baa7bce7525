use Rattle.std.proofs.Common.{rules, refl, ap, ◌∙◌}
use Rattle.std.specs.Prelude.{Err}
use Rattle.reading.proofs.Scans.{start_laws, scan_start, scan_end}
use Rattle.reading.proofs.Steps.{found_laws, found_fault, found_end}
use Rattle.reading.proofs.scan.Goals as goal

pub loop-at-init : goal.loop-at-init
loop-at-init g c = (search rules, search start_laws, search start_laws, refl)

pub returns-in-Err-Faulty : goal.returns-in-Err-Faulty
returns-in-Err-Faulty g c =
    found_fault _ _ _ _ c.advance.ensures _ _ c.loop-at.invariant.3 (scan_start _ _ _ c.start-st.ensures) _ (c.in-Err-Faulty.is ∙ ap Err c.in-Err-Faulty.field-0-is)

pub returns-in-Err-End : goal.returns-in-Err-End
returns-in-Err-End g c =
    found_end _ _ _ _ c.advance.ensures _ _ c.loop-at.invariant.3 (scan_start _ _ _ c.start-st.ensures) (c.in-Err-End.is ∙ ap Err c.in-Err-End.field-0-is)

pub returns : goal.returns
returns g c = search (scan_end, scan_start)
