use Rattle.std.specs.Arc.{arc_value}
use Rattle.sp_workers.proofs.Changes.{later_by_prune}
use Rattle.sp_workers.proofs.sections.prune_ours.Goals as goal

pub returns-clause-later : goal.returns-clause-later
returns-clause-later c = let e = c.prune_ours-pruned.ensures in later_by_prune c.args.book.now (arc_value c.args.base.now) c.args.pairs.now c.prune_ours-pruned.result c.prune_ours-pruned.new.self e.ok e.unchanged
