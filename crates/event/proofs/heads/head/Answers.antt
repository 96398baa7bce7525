use Rattle.event.proofs.Taken.{made}
use Rattle.event.proofs.heads.head.Goals as goal

pub returns : goal.returns
returns c =
    made c.args.event.now c.wide-flags.ensures.0 c.wide.ensures.0 c.index.ensures.0 c.index-2.ensures.0 c.index-3.ensures.0 c.wide-2.ensures.0 c.half.ensures.0 c.half-2.ensures.0
    c.padding.ensures
