use Rattle.sp_script.proofs.GrammarLemmas.{requests_are_said}
use Rattle.sp_script.proofs.laws.requests_are_said.Goals as goal

pub returns : goal.returns
returns c = requests_are_said
