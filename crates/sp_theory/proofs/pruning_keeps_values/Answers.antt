use Rattle.sp_theory.proofs.Pruning.{pruned_same}
use Rattle.sp_theory.proofs.pruning_keeps_values.Goals as goal

pub returns : goal.returns
returns c = pruned_same
