use Rattle.std.proofs.Common.{rules, refl}
use Rattle.runs.proofs.StartRows.{nearest_spot, nearest_before, start_24, start_25, start_unstalled}
use Rattle.runs.proofs.Searches.{known_of, known_small}
use Rattle.runs.proofs.starts.start.Goals as goal
use Rattle.runs.proofs.starts.start.Goals.{then-stalls+else-waiting-k, else-stalls}

pub record_of-own-requires : goal.record_of-own-requires
record_of-own-requires g c =
    let p = c.requires in
    let e = c.nearest.ensures in
    (nearest_spot _ _ _ _ _ p.3 p.2 _ e, nearest_before _ _ _ _ _ p.3 p.2 _ e, p.0)

pub overflow_cast-result : goal.overflow_cast-result
overflow_cast-result g c =
    let p = c.requires in
    let o = c.args.objects.now in
    search (rules, known_small _ _ _ _ (known_of _ _ _ _ _ o.recorded o.numbered refl p.0 p.1))

pub returns-then-waiting-k : goal.returns-then-waiting-k
returns-then-waiting-k g c = record { verdict = start_24 _ _ _ _ _ _ c.record_of-own.ensures c.stalls.ensures _ c.if-stalls.true c.lowest_waiting-waiting.ensures.1 c.if-waiting-k.true; cursors = tt }

pub returns : goal.returns
returns g c =
    let h = c.record_of-own.ensures in
    let s = c.stalls.ensures in
    record {
      verdict =
          elim c.if-stalls.branch [
            | then-stalls+else-waiting-k x ↦ start_25 _ _ _ _ _ _ h s _ x.if-stalls.true x.lowest_waiting-waiting.ensures.1 _ x.if-waiting-k.false c.waits.ensures.verdict
            | else-stalls x ↦ start_unstalled _ _ _ _ _ _ h s _ x.if-stalls.false c.waits.ensures.verdict
          ];
      cursors = c.waits.ensures.cursors;
    }
