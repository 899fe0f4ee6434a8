use Rattle.sp_filed.proofs.Stopped.{left_is, no_count, other_count}
use Rattle.sp_filed.proofs.sections.count_first.Goals as goal

pub returns-in_default-clause-err : goal.returns-in_default-clause-err
returns-in_default-clause-err c = λ left e. no_count c.args.word.now c.args.text.now left c.in_default.ensures (left_is _ left e)

pub returns-in-None-clause-err : goal.returns-in-None-clause-err
returns-in-None-clause-err c = λ left e. other_count c.args.word.now c.args.text.now c.in-Some.line.now c.in-Some.rest.now left c.requires c.in-Some.ensures c.in-None.ensures (left_is _ left e)
