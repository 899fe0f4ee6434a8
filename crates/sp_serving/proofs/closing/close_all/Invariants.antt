use Rattle.std.proofs.Common.{◌≡◌, map}
use Rattle.std.specs.Prelude.{All}
use Rattle.std.specs.Arc.{arc_value}
use Rattle.sp_model.specs.Problem.{problem}
use Rattle.sp_session.specs.Logs.{logs_of}
use Rattle.sp_serving.specs.Replies.{closed_on}
use Rattle.sp_serving.specs.Serving.{HasEntriesOf, log_in, shown_in}
use Rattle.sp_serving.proofs.closing.close_all.Given as goal

abbrev pub invariant-loop-session : goal.invariant-loop-session
invariant-loop-session l = record {
  logs : logs_of l.logs ≡ map (closed_on (problem (arc_value l.last).task.model) (shown_in (arc_value l.last))) (map log_in l.yielded);
  known : All (HasEntriesOf (arc_value l.last).task.model) (logs_of l.logs);
}
