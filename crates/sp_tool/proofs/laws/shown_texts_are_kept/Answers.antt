use Rattle.sp_tool.proofs.PlanTexts.{shown_are_kept}
use Rattle.sp_tool.proofs.laws.shown_texts_are_kept.Goals as goal

pub returns : goal.returns
returns c = shown_are_kept
