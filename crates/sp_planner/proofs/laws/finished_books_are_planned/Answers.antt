use Rattle.sp_planner.proofs.Finished.{opened_planned}
use Rattle.sp_planner.proofs.laws.finished_books_are_planned.Goals as goal

pub returns : goal.returns
returns c = opened_planned
