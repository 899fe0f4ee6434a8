use Rattle.sp_workers.proofs.Changes.{later_by_settle}
use Rattle.sp_workers.proofs.sections.settle_weighed.Goals as goal

pub returns-clause-later : goal.returns-clause-later
returns-clause-later c = let e = c.settle_weighed-settled.ensures in later_by_settle c.args.book.now c.args.candidate c.settle_weighed-settled.result c.settle_weighed-settled.new.self e.ok e.unchanged
