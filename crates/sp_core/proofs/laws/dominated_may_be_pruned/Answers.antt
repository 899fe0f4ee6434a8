use Rattle.sp_core.proofs.DominatedPairs.{dominated_may_be_pruned}
use Rattle.sp_core.proofs.laws.dominated_may_be_pruned.Goals as goal

pub returns : goal.returns
returns c = dominated_may_be_pruned
