use Rattle.std.proofs.Common.{sym, subst}
use Rattle.std.specs.Prelude.{All}
use Rattle.sp_value.specs.Tasks.{TaskParts}
use Rattle.sp_session.specs.Logs.{entries_of}
use Rattle.sp_session.specs.Sessions.{IsEntryOf}
use Rattle.sp_desk.proofs.closing.close.Goals as goal

pub returns-in-Ok-clause-known : goal.returns-in-Ok-clause-known
returns-in-Ok-clause-known c = subst (λ (t : TaskParts). All (IsEntryOf t.model) (entries_of c.in-Ok.log.entries)) (sym c.requires.task) c.in-Ok.ensures.known
