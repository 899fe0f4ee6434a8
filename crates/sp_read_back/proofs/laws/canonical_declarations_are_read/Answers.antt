use Rattle.sp_read_back.proofs.Declared.{declared}
use Rattle.sp_read_back.proofs.laws.canonical_declarations_are_read.Goals as goal

pub returns : goal.returns
returns c = declared
