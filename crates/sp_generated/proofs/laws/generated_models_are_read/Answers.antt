use Rattle.sp_generated.proofs.Models.{generated_models}
use Rattle.sp_generated.proofs.laws.generated_models_are_read.Goals as goal

pub returns : goal.returns
returns c = generated_models
