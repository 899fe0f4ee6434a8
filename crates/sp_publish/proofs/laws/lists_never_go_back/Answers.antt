use Rattle.sp_publish.proofs.PublishedLemmas.{never_back}
use Rattle.sp_publish.proofs.laws.lists_never_go_back.Goals as goal

pub returns : goal.returns
returns c = never_back
