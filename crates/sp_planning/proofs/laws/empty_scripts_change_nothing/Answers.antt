use Rattle.sp_planning.proofs.Scripted.{empty_scripts_change_nothing}
use Rattle.sp_planning.proofs.laws.empty_scripts_change_nothing.Goals as goal

pub returns : goal.returns
returns c = empty_scripts_change_nothing
