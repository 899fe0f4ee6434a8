use Rattle.std.proofs.Common.{◌≡◌}
use Rattle.std.specs.Prelude.{All}
use Rattle.std.specs.Arc.{arc_value}
use Rattle.sp_session.specs.Logs.{logs_of}
use Rattle.sp_serving.specs.Serving.{HasEntriesOf}
use Rattle.sp_desk.specs.Ended.{closed_logs}
use Rattle.sp_desk.proofs.closing.close_all.Given as goal

abbrev pub invariant-loop-seat : goal.invariant-loop-seat
invariant-loop-seat l = record {
  logs : logs_of l.logs ≡ closed_logs l.yielded (arc_value l.last);
  known : All (HasEntriesOf (arc_value l.last).task.model) (logs_of l.logs);
}
