use mathlib.Core.Path.{◌∙◌}
use native.Mathlib.Omega.{arith}
use lib.Pow.{pow_mono}
use Rattle.event.proofs.Groups.{group_read}
use Rattle.barriers.proofs.MemberMasks.{no_members, members_low, members_in, members_out}
use Rattle.barriers.proofs.members.Goals as goal
use Rattle.barriers.proofs.members.Goals.{then-group-lt16, else-group-lt16}

pub loop-t-init : goal.loop-t-init
loop-t-init c = record { within = omega arith; seen = no_members c.args.setup.groups }

pub overflow_add-members : goal.overflow_add-members
overflow_add-members c =
    let s = c.args.setup in
    let l = c.loop-t in
    omega (
      arith,
      c.bit.ensures.1,
      members_low s.groups l.t (group_read s l.t c.requires.all (omega arith)) l.invariant.seen c.if-group-lt16.true,
      pow_mono {i = l.t} {j = 16} (omega arith),
    )

pub loop-t-preserved : goal.loop-t-preserved
loop-t-preserved c =
    let s = c.args.setup in
    let l = c.loop-t in
    let own = group_read s l.t c.requires.all (omega arith) in
    record {
      within = omega arith;
      seen =
          elim c.if-group-lt16.branch [
            | then-group-lt16 w ↦ w.members-is ∙ members_in s.groups l.t own l.invariant.seen w.if-group-lt16.true w.bit.ensures.0
            | else-group-lt16 w ↦ w.members-is ∙ members_out s.groups l.t own l.invariant.seen w.if-group-lt16.false
          ];
    }
