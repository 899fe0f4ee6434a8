use Rattle.sp_theory.proofs.LogLemmas.{legal_logs_agree}
use Rattle.sp_theory.proofs.sessions.legal_logs_agree.Goals as goal

pub returns : goal.returns
returns c = legal_logs_agree
