use Rattle.sp_planfile.proofs.Whole.{no_beginning}
use Rattle.sp_planfile.proofs.laws.no_text_is_beginning.Goals as goal

pub returns : goal.returns
returns c = no_beginning
