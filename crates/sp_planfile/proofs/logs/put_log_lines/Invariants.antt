use Rattle.std.proofs.Common.{◌≡◌, drop, ◌++◌}
use Rattle.sp_session.specs.Logs.{logs_of}
use Rattle.sp_planfile.specs.PlanText.{logs_text}
use Rattle.sp_planfile.proofs.logs.put_log_lines.Given as goal

abbrev pub invariant-loop-log : goal.invariant-loop-log
invariant-loop-log l = l.fn.text.items ++ logs_text (logs_of l.logs) ≡ l.text.items ++ logs_text (logs_of (drop l.log-index l.logs))
