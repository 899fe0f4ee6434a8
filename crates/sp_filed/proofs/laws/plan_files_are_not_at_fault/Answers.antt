use Rattle.sp_filed.proofs.FaultLaws.{plan_files_are_not_at_fault}
use Rattle.sp_filed.proofs.laws.plan_files_are_not_at_fault.Goals as goal

pub returns : goal.returns
returns c = plan_files_are_not_at_fault
