use Rattle.sp_declarations.proofs.RowLemmas.{declared_told}
use Rattle.sp_declarations.proofs.laws.declarations_are_told.Goals as goal

pub returns : goal.returns
returns c = declared_told
