use Rattle.sp_workers.proofs.Growing.{taken_same}
use Rattle.sp_workers.proofs.Seen.{seen_task}
use Rattle.sp_workers.proofs.sections.take_work.Goals as goal

pub returns-clause-same : goal.returns-clause-same
returns-clause-same c = taken_same _ _ _ _ c.next_work-picked.ensures.taken

pub returns-clause-work : goal.returns-clause-work
returns-clause-work c = record {
  below = c.in_ok-belief.ensures.below;
  task = λ base newest. seen_task c.args.book.now c.task.ensures.known c.args.seen base newest c.requires;
}

pub returns-in_err-belief-clause-same : goal.returns-in_err-belief-clause-same
returns-in_err-belief-clause-same c = taken_same _ _ _ _ c.next_work-picked.ensures.taken
