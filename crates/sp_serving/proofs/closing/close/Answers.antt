use Rattle.std.proofs.Common.{◌∙◌, ap, subst}
use Rattle.std.specs.Prelude.{All}
use Rattle.std.specs.Arc.{arc_value}
use Rattle.sp_value.specs.Tasks.{TaskParts}
use Rattle.sp_session.specs.Logs.{entries_of}
use Rattle.sp_session.specs.Sessions.{IsEntryOf}
use Rattle.sp_serving.proofs.Resting.{closed_alike}
use Rattle.sp_serving.proofs.closing.close.Goals as goal

pub returns-in-Ok-clause-value : goal.returns-in-Ok-clause-value
returns-in-Ok-clause-value c = c.in-Ok.ensures.value ∙ closed_alike c.args.session (arc_value c.args.last.now) c.requires.task

pub returns-in-Ok-clause-known : goal.returns-in-Ok-clause-known
returns-in-Ok-clause-known c = subst (λ (t : TaskParts). All (IsEntryOf t.model) (entries_of c.in-Ok.log.entries)) c.requires.task c.in-Ok.ensures.known
