use Rattle.sp_script.proofs.GrammarLemmas.{observations_are_named}
use Rattle.sp_script.proofs.laws.observations_are_named.Goals as goal

pub returns : goal.returns
returns c = observations_are_named
