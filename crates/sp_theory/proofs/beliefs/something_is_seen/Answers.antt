use Rattle.sp_theory.proofs.Unseen.{something_seen}
use Rattle.sp_theory.proofs.beliefs.something_is_seen.Goals as goal

pub returns : goal.returns
returns c = something_seen
