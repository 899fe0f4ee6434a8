use Rattle.sp_theory.proofs.Scales.{next_scaled}
use Rattle.sp_theory.proofs.beliefs.next_is_scaled.Goals as goal

pub returns : goal.returns
returns c = next_scaled
