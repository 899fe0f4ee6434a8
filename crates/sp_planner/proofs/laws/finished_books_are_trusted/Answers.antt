use Rattle.sp_planner.proofs.Finished.{finished_trusted}
use Rattle.sp_planner.proofs.laws.finished_books_are_trusted.Goals as goal

pub returns : goal.returns
returns c = finished_trusted
