use Rattle.sp_theory.proofs.OneThread.{prune_goes}
use Rattle.sp_theory.proofs.prune_goes_on.Goals as goal

pub returns : goal.returns
returns c = prune_goes
