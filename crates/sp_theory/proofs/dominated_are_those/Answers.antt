use Rattle.sp_theory.proofs.Domination.{dominated_are_those}
use Rattle.sp_theory.proofs.dominated_are_those.Goals as goal

pub returns : goal.returns
returns c = dominated_are_those
