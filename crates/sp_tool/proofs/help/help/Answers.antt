use Rattle.std.proofs.Common.{◌∙◌, refl}
use Rattle.sp_tool.proofs.help.help.Goals as goal

pub returns : goal.returns
returns c = c.as_bytes.ensures.value ∙ refl
