use Rattle.sp_judging.proofs.Migrated.{legal_files_are_not_refused}
use Rattle.sp_judging.proofs.laws.legal_files_are_not_refused.Goals as goal

pub returns : goal.returns
returns c = legal_files_are_not_refused
