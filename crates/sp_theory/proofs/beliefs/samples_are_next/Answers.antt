use Rattle.sp_theory.proofs.Drawn.{samples_next}
use Rattle.std.proofs.Common.{ℕ, List}
use Rattle.sp_theory.proofs.beliefs.samples_are_next.Goals as goal

pub returns : goal.returns
returns c = samples_next (List ℕ)
