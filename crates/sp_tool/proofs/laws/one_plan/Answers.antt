use Rattle.sp_tool.proofs.PlanTexts.{plans_differ}
use Rattle.sp_tool.proofs.laws.one_plan.Goals as goal

pub returns : goal.returns
returns c = plans_differ
