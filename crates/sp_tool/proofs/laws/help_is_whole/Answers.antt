use Rattle.sp_tool.proofs.HelpLemmas.{help_tells}
use Rattle.sp_tool.proofs.laws.help_is_whole.Goals as goal

pub returns : goal.returns
returns c = help_tells
