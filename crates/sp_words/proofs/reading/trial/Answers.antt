use Rattle.std.proofs.Common.{map, string_bytes}
use Rattle.sp_words.proofs.JobLemmas.{trial_other}
use Rattle.sp_words.proofs.reading.trial.Goals as goal

pub returns-in-None-clause-usage : goal.returns-in-None-clause-usage
returns-in-None-clause-usage c = λ e. trial_other (map string_bytes c.args.words.now) c.in-None.ensures
