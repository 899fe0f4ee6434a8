use Rattle.sp_words.specs.Jobs.{numbers_of}
use Rattle.sp_words.proofs.reading.plan_in.Goals as goal

pub returns-in_default-numbers_in-clause-usage : goal.returns-in_default-numbers_in-clause-usage
returns-in_default-numbers_in-clause-usage c = λ e p is. c.in_default-numbers_in.ensures (numbers_of p) is.numbers

pub returns-in_default-file_of-clause-usage : goal.returns-in_default-file_of-clause-usage
returns-in_default-file_of-clause-usage c = λ e p is. c.in_default-file_of.ensures p.sessions is.sessions

pub returns-in_default-explore_of-clause-usage : goal.returns-in_default-explore_of-clause-usage
returns-in_default-explore_of-clause-usage c = λ e p is. c.in_default-explore_of.ensures p.sweep is.explore
