use Rattle.sp_theory.proofs.LogLemmas.{logs_never_go_back}
use Rattle.sp_theory.proofs.sessions.logs_never_go_back.Goals as goal

pub returns : goal.returns
returns c = logs_never_go_back
