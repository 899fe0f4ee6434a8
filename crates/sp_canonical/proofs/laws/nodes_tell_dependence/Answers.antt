use Rattle.sp_canonical.proofs.DependenceLemmas.{told}
use Rattle.sp_canonical.proofs.laws.nodes_tell_dependence.Goals as goal

pub returns : goal.returns
returns c = told
