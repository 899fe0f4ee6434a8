use Rattle.std.proofs.Common.{sym, subst}
use Rattle.std.specs.Prelude.{All}
use Rattle.sp_theory.specs.Points.{count_of}
use Rattle.sp_model.specs.declared.parts.Parts.{Parts}
use Rattle.sp_model.specs.Problem.{sizes_of}
use Rattle.sp_session.specs.Logs.{logs_of}
use Rattle.sp_script.specs.Laws.{IsObservationWithin}
use Rattle.sp_planning.proofs.ScriptForm.{file_logs}
use Rattle.sp_concurrent.proofs.Ending.{run_file_is}
use Rattle.sp_concurrent.proofs.files.concurrent_file.Goals as goal

pub plan_serving-requires : goal.plan_serving-requires
plan_serving-requires g c = (
  c.type_bounds.sync-R,
  (
    c.type_bounds.sync-G,
    (
      c.in_ok-book.ensures.opening,
      subst (λ (p : Parts). All (IsObservationWithin (count_of (sizes_of p.sights))) c.args.commands) (sym c.in_ok-book.ensures.task.model) c.requires.commands,
    ),
  ),
)

pub book_file-requires : goal.book_file-requires
book_file-requires g c =
    let served = c.in_ok-book-2.ensures.served in
    record {
      done = c.in_ok-book-2.ensures.done;
      logs = file_logs c.in_ok-book-2.field-0.book.task.model c.args.commands c.as_slice.ensures.known (logs_of c.in_ok-book-2.field-0.transcript) served.served.sessions served.entries;
    }

pub returns : goal.returns
returns g c =
    run_file_is c.args.model c.args.options _ c.args.commands c.in_ok-book.book.task c.in_ok-book-2.field-0.book c.in_ok-book-2.field-0.transcript c.in_ok-text.text.items
    c.in_ok-book.ensures.task c.in_ok-book-2.ensures.task c.in_ok-book-2.ensures.known c.in_ok-book-2.ensures.done c.in_ok-book-2.ensures.served c.in_ok-text.ensures
