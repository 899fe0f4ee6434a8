use Rattle.sp_theory.proofs.Drawn.{limits_keep}
use Rattle.sp_theory.proofs.beliefs.limits_keep_weight.Goals as goal

pub returns : goal.returns
returns c = limits_keep
