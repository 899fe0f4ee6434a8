use Rattle.sp_script.proofs.GrammarLemmas.{observations_are_within}
use Rattle.sp_tool.proofs.scripts.script_in.Goals as goal

pub returns-in-Ok-clause-within : goal.returns-in-Ok-clause-within
returns-in-Ok-clause-within c = observations_are_within c.args.model.now.sights c.parts.ensures.known.sights c.args.source.now c.in-Ok.commands c.in-Ok.ensures.ok
