use Rattle.sp_prune.proofs.States.{nowhere_is}
use Rattle.sp_prune.proofs.is_nowhere_above.Goals as goal

pub returns : goal.returns
returns c = nowhere_is c.args.model.now c.parts.ensures.known c.args.member.now c.args.other.now c.requires.member c.requires.other c.in_ok-point.point c.in_ok-point.ensures c.is_none.result c.is_none.ensures
