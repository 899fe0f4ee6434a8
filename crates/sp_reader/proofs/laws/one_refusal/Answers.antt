use Rattle.sp_reader.proofs.SourceLemmas.{one_reason}
use Rattle.sp_reader.proofs.laws.one_refusal.Goals as goal

pub returns : goal.returns
returns c = one_reason
