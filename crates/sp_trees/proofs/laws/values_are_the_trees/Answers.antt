use Rattle.sp_trees.proofs.ValueLemmas.{values_told}
use Rattle.sp_trees.proofs.laws.values_are_the_trees.Goals as goal

pub returns : goal.returns
returns c = values_told
