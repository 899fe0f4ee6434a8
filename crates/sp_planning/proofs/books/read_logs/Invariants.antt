use Rattle.std.proofs.Common.{take}
use Rattle.std.specs.Prelude.{All}
use Rattle.std.specs.List.{AllByRecursion}
use Rattle.sp_session.specs.Logs.{entries_of}
use Rattle.sp_planfile.specs.Form.{HasSmallNumbers}
use Rattle.sp_planning.proofs.books.read_logs.Given as goal

abbrev pub invariant-loop-log : goal.invariant-loop-log
invariant-loop-log l = All (λ log. AllByRecursion HasSmallNumbers (entries_of log.entries)) (take l.log-index l.logs)
