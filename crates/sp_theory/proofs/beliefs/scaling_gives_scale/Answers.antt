use Rattle.sp_theory.proofs.Scales.{scaling_gives}
use Rattle.sp_theory.proofs.beliefs.scaling_gives_scale.Goals as goal

pub returns : goal.returns
returns c = scaling_gives
