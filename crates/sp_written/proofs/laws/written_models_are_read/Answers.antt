use Rattle.sp_written.proofs.Models.{written_models}
use Rattle.sp_written.proofs.laws.written_models_are_read.Goals as goal

pub returns : goal.returns
returns c = written_models
