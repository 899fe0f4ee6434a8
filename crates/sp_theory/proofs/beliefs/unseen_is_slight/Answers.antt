use Rattle.sp_theory.proofs.Unseen.{unseen_slight}
use Rattle.sp_theory.proofs.beliefs.unseen_is_slight.Goals as goal

pub returns : goal.returns
returns c = unseen_slight
