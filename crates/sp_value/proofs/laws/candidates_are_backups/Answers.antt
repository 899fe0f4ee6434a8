use Rattle.sp_value.proofs.CandidateLaws.{candidate_agrees}
use Rattle.sp_value.proofs.laws.candidates_are_backups.Goals as goal

pub returns : goal.returns
returns c = candidate_agrees
