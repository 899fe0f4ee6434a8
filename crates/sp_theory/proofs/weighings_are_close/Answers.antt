use Rattle.sp_theory.proofs.Weighing.{weighed_low, weighed_high}
use Rattle.sp_theory.proofs.weighings_are_close.Goals as goal

pub returns : goal.returns
returns c sizes draws f whole = (weighed_low sizes draws f, weighed_high sizes draws f whole)
