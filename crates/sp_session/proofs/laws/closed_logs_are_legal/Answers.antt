use Rattle.sp_session.proofs.Closing.{closed_logs_are_legal}
use Rattle.sp_session.proofs.laws.closed_logs_are_legal.Goals as goal

pub returns : goal.returns
returns c = closed_logs_are_legal
