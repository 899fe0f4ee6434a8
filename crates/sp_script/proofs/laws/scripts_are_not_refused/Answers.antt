use Rattle.sp_script.proofs.ScriptLemmas.{scripts_are_not_refused}
use Rattle.sp_script.proofs.laws.scripts_are_not_refused.Goals as goal

pub returns : goal.returns
returns c = scripts_are_not_refused
