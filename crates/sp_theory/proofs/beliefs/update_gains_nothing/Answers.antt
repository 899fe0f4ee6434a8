use Rattle.sp_theory.proofs.Scales.{gains_nothing}
use Rattle.sp_theory.proofs.beliefs.update_gains_nothing.Goals as goal

pub returns : goal.returns
returns c = gains_nothing
