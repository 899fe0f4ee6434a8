use Rattle.sp_theory.proofs.Initial.{initial_scaled}
use Rattle.sp_theory.proofs.beliefs.initial_is_scaled.Goals as goal

pub returns : goal.returns
returns c = initial_scaled
