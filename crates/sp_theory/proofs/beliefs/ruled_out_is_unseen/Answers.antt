use Rattle.sp_theory.proofs.Unseen.{ruled_out}
use Rattle.sp_theory.proofs.beliefs.ruled_out_is_unseen.Goals as goal

pub returns : goal.returns
returns c = ruled_out
