use Rattle.sp_theory.proofs.Drawn.{sample_next}
use Rattle.sp_theory.proofs.beliefs.sample_is_next.Goals as goal

pub returns : goal.returns
returns c = sample_next
