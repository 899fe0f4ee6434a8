use Rattle.sp_filed.proofs.OneRun.{one_run}
use Rattle.sp_filed.proofs.laws.plan_files_tell_one_run.Goals as goal

pub returns : goal.returns
returns c = one_run
