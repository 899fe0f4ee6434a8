use Rattle.sp_theory.proofs.Prompt.{stages_published}
use Rattle.sp_theory.proofs.stages_are_published.Goals as goal

pub returns : goal.returns
returns c = stages_published
