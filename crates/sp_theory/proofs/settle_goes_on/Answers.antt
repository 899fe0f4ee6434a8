use Rattle.sp_theory.proofs.OneThread.{settle_goes_after}
use Rattle.sp_theory.proofs.settle_goes_on.Goals as goal

pub returns : goal.returns
returns c = settle_goes_after
