use Rattle.sp_value.proofs.CandidateLaws.{candidate_close}
use Rattle.sp_value.proofs.laws.candidates_are_close.Goals as goal

pub returns : goal.returns
returns c = candidate_close
