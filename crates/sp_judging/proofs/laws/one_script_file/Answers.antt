use Rattle.sp_judging.proofs.ScriptLemmas.{one_script_file}
use Rattle.sp_judging.proofs.laws.one_script_file.Goals as goal

pub returns : goal.returns
returns c = one_script_file
