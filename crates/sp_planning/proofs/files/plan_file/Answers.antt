use Rattle.std.proofs.Common.{List, sym, subst}
use Rattle.sp_session.specs.declared.logs.SessionLog.{SessionLog}
use Rattle.sp_session.specs.Logs.{logs_of}
use Rattle.sp_planning.specs.BookFiles.{AreFileLogs, IsBookFile}
use Rattle.sp_planning.proofs.Finished.{plan_file_is}
use Rattle.sp_planning.proofs.ScriptForm.{no_logs}
use Rattle.sp_planning.proofs.files.plan_file.Goals as goal

pub book_file-requires : goal.book_file-requires
book_file-requires g c = record {
  done = c.in_ok-book.ensures.done;
  logs = subst (λ (logs : List SessionLog). AreFileLogs c.in_ok-book.book.task.model (logs_of logs)) (sym c.new.ensures) (no_logs c.in_ok-book.book.task.model);
}

pub returns : goal.returns
returns g c =
    plan_file_is c.args.model c.args.options _ c.in_ok-book.book c.in_ok-text.text.items c.in_ok-book.ensures.planned
    (subst (λ (logs : List SessionLog). IsBookFile c.in_ok-book.book logs c.in_ok-text.text.items) c.new.ensures c.in_ok-text.ensures)
