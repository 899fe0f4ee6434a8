use Rattle.sp_planning.proofs.RunFiles.{plan_files_are_run_files}
use Rattle.sp_planning.proofs.laws.plan_files_are_run_files.Goals as goal

pub returns : goal.returns
returns c = plan_files_are_run_files
