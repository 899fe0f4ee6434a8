use Rattle.sp_script.proofs.SomeLemmas.{some_sessions_have_commands}
use Rattle.sp_script.proofs.laws.some_sessions_have_commands.Goals as goal

pub returns : goal.returns
returns c = some_sessions_have_commands
