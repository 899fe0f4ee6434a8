use Rattle.sp_script.proofs.SomeLemmas.{some_sessions_are_served}
use Rattle.sp_script.proofs.laws.some_sessions_are_served.Goals as goal

pub returns : goal.returns
returns c = some_sessions_are_served
