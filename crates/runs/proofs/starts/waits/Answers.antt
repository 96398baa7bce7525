use Rattle.std.proofs.Common.{arith, refl, sym, ◌∙◌}
use Rattle.awaited.proofs.Searched.{find_least}
use Rattle.runs.proofs.Awaited.{states_in, first_most, first_off, nobody_left, search_from, search_in, search_small, search_delta, search_nobody, search_verdict}
use Rattle.runs.proofs.Searches.{known_of, waits_nobody}
use Rattle.runs.proofs.StartRows.{searched_sound}
use Rattle.runs.proofs.starts.waits.Goals as goal

pub returns-then-mask-eq0 : goal.returns-then-mask-eq0
returns-then-mask-eq0 g c =
    let p = c.requires in
    record { verdict = waits_nobody _ _ _ _ _ _ c.mask.ensures p.2 c.if-mask-eq0.true _ refl; cursors = p.4 }

pub returns-then-u-k : goal.returns-then-u-k
returns-then-u-k g c =
    let p = c.requires in
    let o = c.args.objects.now in
    let h = known_of _ _ _ _ _ o.recorded o.numbered refl p.0 p.1 in
    let u = c.first_unfinished-u.ensures in
    let q = c.if-u-k.true in
    record {
      verdict = nobody_left _ _ _ _ _ h p.2 _ u q;
      cursors = searched_sound _ _ _ _ p.4 _ _ _ (first_off _ _ _ _ _ h p.2 _ (sym q ∙ u)) p.2 p.4.crossed;
    }

pub record_of-at-requires : goal.record_of-at-requires
record_of-at-requires g c =
    let p = c.requires in
    let o = c.args.objects.now in
    let h = known_of _ _ _ _ _ o.recorded o.numbered refl p.0 p.1 in
    let u = c.first_unfinished-u.ensures in
    (p.4.first, omega (arith, u, find_least _ _ _ p.4.finished p.3), omega (arith, first_most _ _ _ _ _ h p.2 _ u, p.0))

pub find-f-requires : goal.find-f-requires
find-f-requires g c =
    let p = c.requires in
    let o = c.args.objects.now in
    let h = known_of _ _ _ _ _ o.recorded o.numbered refl p.0 p.1 in
    let u = c.first_unfinished-u.ensures in
    let e = c.candidate-t.ensures in
    (states_in _ _ _ _ _ h p.2, e, omega (arith, p.2.below, h.records.limit), p.4.crossed, search_from _ _ _ _ _ h p.2 _ e _ _ u c.record_of-at.ensures)

pub named-requires : goal.named-requires
named-requires g c =
    let p = c.requires in
    let o = c.args.objects.now in
    let h = known_of _ _ _ _ _ o.recorded o.numbered refl p.0 p.1 in
    let e = c.candidate-t.ensures in
    let f = c.find-f.ensures in
    (search_in _ _ _ _ _ h p.2 _ e _ f.first, search_small _ _ _ _ _ h p.2 _ e _ f.first, search_delta _ _ _ _ _ h p.2 _ e _ f.first c.if-f-own.true)

pub returns-then-f-own : goal.returns-then-f-own
returns-then-f-own g c =
    let p = c.requires in
    let o = c.args.objects.now in
    let h = known_of _ _ _ _ _ o.recorded o.numbered refl p.0 p.1 in
    record { verdict = search_verdict _ _ _ _ _ h p.2 _ c.candidate-t.ensures _ c.find-f.ensures.first _ c.if-f-own.true c.named.ensures; cursors = tt }

pub returns : goal.returns
returns g c =
    let p = c.requires in
    let o = c.args.objects.now in
    let h = known_of _ _ _ _ _ o.recorded o.numbered refl p.0 p.1 in
    let f = c.find-f.ensures in
    record {
      verdict = search_nobody _ _ _ _ _ h p.2 _ c.candidate-t.ensures _ f.first c.if-f-own.false;
      cursors = searched_sound _ _ _ _ p.4 _ _ _ (first_off _ _ _ _ _ h p.2 _ c.first_unfinished-u.ensures) c.record_of-at.ensures f.crossed;
    }
