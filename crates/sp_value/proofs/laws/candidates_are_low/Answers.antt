use Rattle.sp_value.proofs.CandidateLaws.{candidate_low}
use Rattle.sp_value.proofs.laws.candidates_are_low.Goals as goal

pub returns : goal.returns
returns c = candidate_low
