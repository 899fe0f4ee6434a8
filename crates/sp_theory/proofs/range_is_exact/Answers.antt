use Rattle.sp_theory.proofs.Range.{range_is}
use Rattle.sp_theory.proofs.range_is_exact.Goals as goal

pub returns : goal.returns
returns c = range_is
