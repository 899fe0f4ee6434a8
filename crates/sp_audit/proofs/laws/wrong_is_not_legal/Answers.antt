use Rattle.sp_audit.proofs.VerdictLaws.{wrong_is_not_legal}
use Rattle.sp_audit.proofs.laws.wrong_is_not_legal.Goals as goal

pub returns : goal.returns
returns c = wrong_is_not_legal
