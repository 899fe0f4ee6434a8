use Rattle.sp_script.proofs.ScriptLemmas.{texts_are_refused_once}
use Rattle.sp_script.proofs.laws.texts_are_refused_once.Goals as goal

pub returns : goal.returns
returns c = texts_are_refused_once
