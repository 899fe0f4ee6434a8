use Rattle.sp_theory.proofs.OneThread.{prompt_from_opening}
use Rattle.sp_theory.proofs.one_thread_is_prompt.Goals as goal

pub returns : goal.returns
returns c = prompt_from_opening
