use Rattle.sp_planning.proofs.ModelLines.{model_lines}
use Rattle.sp_planning.proofs.laws.model_texts_have_lines.Goals as goal

pub returns : goal.returns
returns c = model_lines
