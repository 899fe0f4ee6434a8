use Rattle.sp_workers.proofs.Changes.{later_by_settle}
use Rattle.sp_workers.proofs.sections.settle_ours.Goals as goal

pub returns-clause-later : goal.returns-clause-later
returns-clause-later c = let e = c.settle_ours-settled.ensures in later_by_settle c.args.book.now c.args.candidate c.settle_ours-settled.result c.settle_ours-settled.new.self e.ok e.unchanged
