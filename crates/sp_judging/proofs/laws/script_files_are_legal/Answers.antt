use Rattle.sp_judging.proofs.ScriptLemmas.{script_files_are_legal}
use Rattle.sp_judging.proofs.laws.script_files_are_legal.Goals as goal

pub returns : goal.returns
returns c = script_files_are_legal
