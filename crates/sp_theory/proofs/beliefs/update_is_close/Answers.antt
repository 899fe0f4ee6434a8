use Rattle.sp_theory.proofs.Updates.{update_close}
use Rattle.sp_theory.proofs.beliefs.update_is_close.Goals as goal

pub returns : goal.returns
returns c = update_close
