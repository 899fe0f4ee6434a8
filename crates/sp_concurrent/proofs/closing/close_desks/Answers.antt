use Rattle.std.proofs.Common.{sym, subst, List, ◌++◌, ◌∷◌, []}
use Rattle.std.specs.List.{AllZip}
use Rattle.sp_session.specs.declared.logs.SessionLog.{SessionLog}
use Rattle.sp_concurrent.specs.Served.{IsClosed}
use Rattle.sp_concurrent.proofs.Ending.{zip_push}
use Rattle.sp_concurrent.proofs.closing.close_desks.Goals as goal

pub loop-run-preserved : goal.loop-run-preserved
loop-run-preserved c =
    let end = c.args.end.now in
    let run = c.in-Some.run' in
    let closed = subst (IsClosed end run) (sym c.of.ensures) c.in_ok-logs.ensures in
    subst (λ (queues : List (List SessionLog)). AllZip (IsClosed end) (c.loop-run.yielded ++ run ∷ []) queues) (sym c.in_ok-push_queue.ensures)
    (zip_push (IsClosed end) c.loop-run.yielded c.loop-run.desks.items run c.of.result c.loop-run.invariant closed)
