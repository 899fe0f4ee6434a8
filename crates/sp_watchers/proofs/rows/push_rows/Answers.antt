use Rattle.std.specs.Arc.{arc_value}
use Rattle.sp_watchers.proofs.Besides.{told_task}
use Rattle.sp_watchers.proofs.rows.push_rows.Goals as goal

pub push_seen-pushed-requires-clause-task : goal.push_seen-pushed-requires-clause-task
push_seen-pushed-requires-clause-task g c =
    told_task c.in_ok-publisher.publisher c.in_ok-publisher.first c.finish.new.book (arc_value c.task.result.now) c.task.ensures.known c.in_ok-publisher.ensures.beginning c.in_ok-publisher.ensures.notice c.task.ensures.value
