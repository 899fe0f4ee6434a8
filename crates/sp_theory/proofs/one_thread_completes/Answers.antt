use Rattle.sp_theory.proofs.Ends.{one_thread_completes}
use Rattle.sp_theory.proofs.one_thread_completes.Goals as goal

pub returns : goal.returns
returns c = one_thread_completes
