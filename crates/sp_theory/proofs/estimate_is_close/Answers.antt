use Rattle.sp_theory.proofs.Backups.{estimate_is}
use Rattle.sp_theory.proofs.estimate_is_close.Goals as goal

pub returns : goal.returns
returns c = estimate_is
