use Rattle.sp_theory.proofs.Publications.{publications_follow}
use Rattle.sp_theory.proofs.publications_follow_settles.Goals as goal

pub returns : goal.returns
returns c = publications_follow
