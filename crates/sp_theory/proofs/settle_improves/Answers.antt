use Rattle.sp_theory.proofs.Ends.{settle_improves}
use Rattle.sp_theory.proofs.settle_improves.Goals as goal

pub returns : goal.returns
returns c = settle_improves
