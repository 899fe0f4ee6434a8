use Rattle.sp_theory.proofs.Ends.{one_thread_ends}
use Rattle.sp_theory.proofs.one_thread_ends.Goals as goal

pub returns : goal.returns
returns c = one_thread_ends
