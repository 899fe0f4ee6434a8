use Rattle.sp_theory.proofs.LogLemmas.{legal_logs_close_once}
use Rattle.sp_theory.proofs.sessions.legal_logs_close_once.Goals as goal

pub returns : goal.returns
returns c = legal_logs_close_once
