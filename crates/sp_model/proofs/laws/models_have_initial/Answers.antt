use Rattle.sp_model.proofs.InitialLaw.{problem_initial}
use Rattle.sp_model.proofs.laws.models_have_initial.Goals as goal

pub returns : goal.returns
returns c = problem_initial
