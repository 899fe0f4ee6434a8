use Rattle.sp_reader.proofs.SourceLemmas.{not_refused}
use Rattle.sp_reader.proofs.laws.accepted_is_not_refused.Goals as goal

pub returns : goal.returns
returns c = not_refused
