use Rattle.sp_words.specs.Jobs.{numbers_of}
use Rattle.sp_words.proofs.taken.plan_of.Goals as goal

pub returns-in_default-numbers_at-clause-usage : goal.returns-in_default-numbers_at-clause-usage
returns-in_default-numbers_at-clause-usage c = λ e p is. c.in_default-numbers_at.ensures (numbers_of p) is.numbers

pub returns-in_default-option_file_at-clause-usage : goal.returns-in_default-option_file_at-clause-usage
returns-in_default-option_file_at-clause-usage c = λ e p is. c.in_default-option_file_at.ensures p.sessions is.sessions
