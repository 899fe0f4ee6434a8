use Rattle.sp_workers.proofs.Seen.{seen_tells}
use Rattle.sp_workers.proofs.sections.is_ours.Goals as goal

pub returns : goal.returns
returns c e newest =
    seen_tells c.args.book.now c.task.ensures.known c.args.seen.now e newest c.args.published.now c.requires.whole c.is_before.result c.is_before.ensures c.edition.ensures.known c.number.result c.number-2.result c.number.ensures.count c.number-2.ensures.count
