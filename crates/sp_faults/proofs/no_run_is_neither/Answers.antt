use Rattle.sp_faults.proofs.RunLemmas.{no_run_is_neither}
use Rattle.sp_faults.proofs.no_run_is_neither.Goals as goal

pub returns : goal.returns
returns c = no_run_is_neither
