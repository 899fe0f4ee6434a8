use Rattle.sp_concurrent.proofs.Parts.{parts_serve}
use Rattle.sp_concurrent.proofs.laws.parts_serve_the_whole.Goals as goal

pub returns : goal.returns
returns c = parts_serve
