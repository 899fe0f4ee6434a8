use Rattle.sp_audit.proofs.VerdictLaws.{nothing_is_neither}
use Rattle.sp_audit.proofs.laws.nothing_is_neither.Goals as goal

pub returns : goal.returns
returns c = nothing_is_neither
