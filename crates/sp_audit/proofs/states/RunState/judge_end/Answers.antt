use Rattle.sp_audit.specs.States.{contents}
use Rattle.sp_audit.proofs.Faults.{end_wrong}
use Rattle.sp_audit.proofs.states.RunState.judge_end.Goals as goal

pub returns-then-self-gt0 : goal.returns-then-self-gt0
returns-then-self-gt0 c = end_wrong (contents c.args.self.now) c.requires.going c.if-self-gt0.true
