use Rattle.sp_faults.proofs.LogLemmas.{no_log_is_neither}
use Rattle.sp_faults.proofs.no_log_is_neither.Goals as goal

pub returns : goal.returns
returns c = no_log_is_neither
