use Rattle.sp_model.proofs.LinkLemmas.{state_dot-dot}
use Rattle.sp_model.proofs.laws.dots_are_the_same.Goals as goal

pub returns : goal.returns
returns c = state_dot-dot
