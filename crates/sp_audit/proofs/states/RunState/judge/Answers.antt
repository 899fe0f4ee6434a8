use Rattle.sp_value.specs.Events.{event_of}
use Rattle.sp_audit.specs.States.{contents}
use Rattle.sp_audit.proofs.Faults.{after_end_wrong}
use Rattle.sp_audit.proofs.states.RunState.judge.Goals as goal

pub returns-then-self : goal.returns-then-self
returns-then-self c = after_end_wrong (contents c.args.self.now) (event_of c.args.event.now) c.if-self.true
