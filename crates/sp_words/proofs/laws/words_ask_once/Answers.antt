use Rattle.sp_words.proofs.OneJob.{same_job}
use Rattle.sp_words.proofs.laws.words_ask_once.Goals as goal

pub returns : goal.returns
returns c = same_job
