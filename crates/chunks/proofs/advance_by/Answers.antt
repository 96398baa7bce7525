use Rattle.std.proofs.Common.{rules}
use Rattle.chunks.proofs.Turns.{ok_passed, here_own, here_at, here_went}
use Rattle.chunks.proofs.advance_by.Goals as goal

pub own_dwords-h-requires : goal.own_dwords-h-requires
own_dwords-h-requires g c =
    let p = c.requires.stands in
    let e = ok_passed _ _ _ c.ok.ensures.value c.in_ok-ok.was in (
      here_own _ _ _ _ c.args.records.now p.0 p.1 _ p.2 _ p.3 _ c.header_verdict.ensures e,
      (let f = p.0.few in let q = p.1 in search rules),
      p.2,
    )

pub overflow_add-result : goal.overflow_add-result
overflow_add-result g c =
    let p = c.requires.stands in
    let e = ok_passed _ _ _ c.ok.ensures.value c.in_ok-ok.was in
    let z = here_at _ _ _ _ c.args.records.now p.0 p.1 _ p.2 _ p.3 _ c.header_verdict.ensures e _ c.total-t.ensures in search rules

pub returns : goal.returns
returns g c =
    let p = c.requires.stands in
    let e = ok_passed _ _ _ c.ok.ensures.value c.in_ok-ok.was in
    here_went _ _ _ _ c.args.records.now p.0 p.1 _ p.2 _ p.3 _ c.header_verdict.ensures e _ _ _ _ _ c.total-t.ensures c.own_dwords-h.ensures p.4
    (c.requires.judges.1 _ _ _ c.judge.ensures) (ok_passed _ _ _ c.ok-2.ensures.value c.in_ok-ok-2.was) c.after.ensures c.write_record.ensures
