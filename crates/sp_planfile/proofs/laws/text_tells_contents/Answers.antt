use Rattle.sp_planfile.proofs.Whole.{text_tells}
use Rattle.sp_planfile.proofs.laws.text_tells_contents.Goals as goal

pub returns : goal.returns
returns c = text_tells
