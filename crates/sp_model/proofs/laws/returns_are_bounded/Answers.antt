use Rattle.sp_model.proofs.Bounds.{least_return_from, least_return_to, top_to}
use Rattle.sp_model.proofs.laws.returns_are_bounded.Goals as goal

pub returns : goal.returns
returns c = λ p known. (least_return_from p known, least_return_to p known, top_to p known)
