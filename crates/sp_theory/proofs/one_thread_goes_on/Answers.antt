use Rattle.sp_theory.proofs.OneThread.{one_thread_goes_after}
use Rattle.sp_theory.proofs.one_thread_goes_on.Goals as goal

pub returns : goal.returns
returns c = one_thread_goes_after
