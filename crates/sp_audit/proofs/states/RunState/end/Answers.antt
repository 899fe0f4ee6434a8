use Rattle.std.proofs.Common.{refl}
use Rattle.sp_audit.specs.States.{contents}
use Rattle.sp_audit.proofs.Following.{ended_follows}
use Rattle.sp_audit.proofs.states.RunState.end.Goals as goal

pub returns : goal.returns
returns c = ended_follows (contents c.args.self.now) c.requires.going c.requires.none _ refl
