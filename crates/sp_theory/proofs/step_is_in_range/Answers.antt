use Rattle.sp_theory.proofs.Steps.{step_from, step_to}
use Rattle.sp_theory.proofs.step_is_in_range.Goals as goal

pub returns : goal.returns
returns c m lawful a known links to s at = (step_from m a links s, step_to m lawful a known s at links to)
