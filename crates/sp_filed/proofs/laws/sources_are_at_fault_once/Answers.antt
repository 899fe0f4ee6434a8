use Rattle.sp_filed.proofs.OneFault.{at_fault_once}
use Rattle.sp_filed.proofs.laws.sources_are_at_fault_once.Goals as goal

pub returns : goal.returns
returns c = at_fault_once
