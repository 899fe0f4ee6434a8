use Rattle.sp_serving.proofs.Transcripts.{names_are_different}
use Rattle.sp_serving.proofs.laws.names_are_different.Goals as goal

pub returns : goal.returns
returns c = names_are_different
