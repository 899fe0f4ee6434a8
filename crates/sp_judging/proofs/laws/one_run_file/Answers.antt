use Rattle.sp_judging.proofs.ScriptLemmas.{one_run_file}
use Rattle.sp_judging.proofs.laws.one_run_file.Goals as goal

pub returns : goal.returns
returns c = one_run_file
