use Rattle.sp_judging.proofs.ScriptLemmas.{run_files_are_legal}
use Rattle.sp_judging.proofs.laws.run_files_are_legal.Goals as goal

pub returns : goal.returns
returns c = run_files_are_legal
