use Rattle.sp_planning.proofs.RunFiles.{script_files_are_run_files}
use Rattle.sp_planning.proofs.laws.script_files_are_run_files.Goals as goal

pub returns : goal.returns
returns c = script_files_are_run_files
