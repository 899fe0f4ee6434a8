use Rattle.std.proofs.Common.{◌∙◌, subst}
use Rattle.std.specs.Prelude.{All}
use Rattle.std.specs.Arc.{arc_value}
use Rattle.sp_value.specs.Tasks.{TaskParts}
use Rattle.sp_session.specs.Logs.{logs_of}
use Rattle.sp_serving.specs.Serving.{HasEntriesOf}
use Rattle.sp_planner.specs.Planned.{picking_words}
use Rattle.sp_attending.proofs.Inside.{served_from}
use Rattle.sp_attending.proofs.Finishing.{chained, last_task, last_newest, served_plan}
use Rattle.sp_attending.proofs.planning.finish_serving.Goals as goal

pub finish-requires-2-clause-task : goal.finish-requires-2-clause-task
finish-requires-2-clause-task c =
    let b = c.args.book.now in
    let served = served_from b.task _ _ c.args.commands _ c.finish.new.between c.new.ensures (c.in_ok-task.ensures ∙ c.task-2.ensures.value) c.in_ok-finish.ensures.served in
    last_task b c.finish.new.book c.args.pruning (picking_words b.task.options) c.args.commands c.in_ok-finish.ensures.run c.finish.new.between.serving served
    c.task-3.ensures.known (arc_value c.latest.result.now) c.latest.ensures

pub finish-requires-2-clause-newest : goal.finish-requires-2-clause-newest
finish-requires-2-clause-newest c =
    let b = c.args.book.now in
    let served = served_from b.task _ _ c.args.commands _ c.finish.new.between c.new.ensures (c.in_ok-task.ensures ∙ c.task-2.ensures.value) c.in_ok-finish.ensures.served in
    last_newest b c.finish.new.book c.args.pruning (picking_words b.task.options) c.args.commands c.in_ok-finish.ensures.run c.finish.new.between.serving served
    c.task-3.ensures.known (arc_value c.latest.result.now) c.latest.ensures

pub returns-clause-logs : goal.returns-clause-logs
returns-clause-logs c =
    let b = c.args.book.now in
    let served = served_from b.task _ _ c.args.commands _ c.finish.new.between c.new.ensures (c.in_ok-task.ensures ∙ c.task-2.ensures.value) c.in_ok-finish.ensures.served in
    served_plan b c.finish.new.book c.args.pruning (picking_words b.task.options) c.args.commands c.in_ok-finish.ensures.run c.finish.new.between.serving served
    c.task-3.ensures.known (arc_value c.latest.result.now) c.latest.ensures c.as_slice.ensures.known c.requires (logs_of c.in_ok-logs.logs) c.in_ok-logs.ensures.logs

pub returns-clause-known : goal.returns-clause-known
returns-clause-known c =
    let b = c.args.book.now in
    let served = served_from b.task _ _ c.args.commands _ c.finish.new.between c.new.ensures (c.in_ok-task.ensures ∙ c.task-2.ensures.value) c.in_ok-finish.ensures.served in
    subst (λ (u : TaskParts). All (HasEntriesOf u.model) (logs_of c.in_ok-logs.logs)) (chained b c.finish.new.book c.args.pruning (picking_words b.task.options) c.args.commands c.in_ok-finish.ensures.run c.finish.new.between.serving served).task c.in_ok-logs.ensures.known
