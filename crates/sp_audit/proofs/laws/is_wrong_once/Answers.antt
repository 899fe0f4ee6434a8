use Rattle.sp_audit.proofs.VerdictLaws.{is_wrong_once}
use Rattle.sp_audit.proofs.laws.is_wrong_once.Goals as goal

pub returns : goal.returns
returns c = is_wrong_once
