use Rattle.sp_session.proofs.Closing.{sessions_are_of_runs}
use Rattle.sp_session.proofs.laws.sessions_are_of_runs.Goals as goal

pub returns : goal.returns
returns c = sessions_are_of_runs
