use Rattle.std.proofs.Common.{sym, subst}
use Rattle.std.specs.Prelude.{All}
use Rattle.sp_value.specs.Tasks.{TaskParts}
use Rattle.sp_session.specs.Logs.{logs_of}
use Rattle.sp_serving.specs.Serving.{HasEntriesOf}
use Rattle.sp_planning.proofs.ScriptForm.{file_logs}
use Rattle.sp_planning.proofs.Scripted.{opened_plans, opened_serves, script_file_is}
use Rattle.sp_planning.proofs.scripts.script_file.Goals as goal

pub returns : goal.returns
returns g c =
    let o = c.args.options in
    let b = c.in_ok-book.book in
    let d = c.finish_serving.new.book in
    let logs = c.in_ok-transcript.transcript in
    let task = c.in_ok-book.ensures.task in
    let first = c.in_ok-book.ensures.opening in
    let done = c.in_ok-transcript.ensures.run in
    script_file_is c.args.model o _ c.args.commands d logs c.in_ok-text.text.items (opened_plans c.args.model o _ b d task first done)
    (opened_serves c.args.model o _ b d task first done c.args.commands (logs_of logs) c.in_ok-transcript.ensures.logs) c.in_ok-text.ensures

pub finish_serving-requires : goal.finish_serving-requires
finish_serving-requires g c = rw (← c.in_ok-book.ensures.task.model) at c.requires.commands

pub book_file-requires : goal.book_file-requires
book_file-requires g c =
    let logs = c.in_ok-transcript.transcript in
    let same = c.in_ok-transcript.ensures.run.task in
    record {
      done = c.in_ok-transcript.ensures.done;
      logs = file_logs c.finish_serving.new.book.task.model c.args.commands c.as_slice.ensures.known (logs_of logs) c.in_ok-transcript.ensures.logs.served.sessions
          (subst (λ (t : TaskParts). All (HasEntriesOf t.model) (logs_of logs)) (sym same) c.in_ok-transcript.ensures.known);
    }
