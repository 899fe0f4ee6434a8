use Rattle.sp_tool.proofs.PlanTexts.{planned_are_legal}
use Rattle.sp_tool.proofs.laws.planned_files_are_legal.Goals as goal

pub returns : goal.returns
returns c = planned_are_legal
