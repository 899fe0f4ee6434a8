use Rattle.std.proofs.Common.{◌≡◌, ◌++◌, length}
use Rattle.sp_session.specs.Logs.{logs_of}
use Rattle.sp_planfile.specs.PlanText.{logs_text}
use Rattle.sp_filed.specs.Stops.{AreLogs, HasNoEntry, names_of}
use Rattle.sp_filed.proofs.logs.log_lines.Given as goal

abbrev pub invariant-loop : goal.invariant-loop
invariant-loop l = record {
  count : length l.logs ≡ l.counter;
  read : l.text ≡ logs_text (logs_of l.logs) ++ l.rest;
  good : AreLogs l.sizes (logs_of l.logs);
  no_entry : HasNoEntry l.sizes (logs_of l.logs) l.rest;
  names : l.names ≡ names_of (logs_of l.logs);
}
