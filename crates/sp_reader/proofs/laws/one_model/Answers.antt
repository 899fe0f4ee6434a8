use Rattle.sp_reader.proofs.SourceLemmas.{one_meaning}
use Rattle.sp_reader.proofs.laws.one_model.Goals as goal

pub returns : goal.returns
returns c = one_meaning
