use Rattle.std.proofs.Common.{inr}
use Rattle.sp_filed.proofs.logs.logs_first.Goals as goal

pub returns-in-Err-log_lines-clause-err : goal.returns-in-Err-log_lines-clause-err
returns-in-Err-log_lines-clause-err c = λ left e. inr (c.in-Ok.found.0, c.in-Ok.found.1.now, c.in-Ok.ensures.ok.0, c.in-Ok.ensures.ok.1, c.in-Err-log_lines.ensures.err left e)
