use Rattle.sp_theory.proofs.Steps.{step_low, step_high}
use Rattle.sp_theory.proofs.step_is_close.Goals as goal

pub returns : goal.returns
returns c m lawful a known links from s at = (step_low m lawful a known s at links from, step_high m lawful a known s at links)
