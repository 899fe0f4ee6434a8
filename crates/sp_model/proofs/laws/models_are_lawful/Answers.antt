use Rattle.sp_model.proofs.RowLaw.{problem_lawful}
use Rattle.sp_model.proofs.laws.models_are_lawful.Goals as goal

pub returns : goal.returns
returns c = problem_lawful
