use Rattle.sp_theory.proofs.LogLemmas.{seen_logs_are_of_runs}
use Rattle.sp_theory.proofs.sessions.seen_logs_are_of_runs.Goals as goal

pub returns : goal.returns
returns c = seen_logs_are_of_runs
