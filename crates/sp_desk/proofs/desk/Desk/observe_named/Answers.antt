use Rattle.sp_desk.proofs.AskedLemmas.{open_found, unchanged}
use Rattle.sp_desk.proofs.desk.Desk.observe_named.Goals as goal

pub returns-in-Err-NoMemory-clause-err : goal.returns-in-Err-NoMemory-clause-err
returns-in-Err-NoMemory-clause-err c = (
  open_found c.args.name.now c.args.self.now.seats c.in-Some.place c.in-Some.ensures.0 c.in-Some.ensures.1,
  unchanged c.args.self.now c.observe_at.new.self c.in-Some.place c.args.observation (rw c.in-Err-NoMemory.field-0-is at c.in-Err-NoMemory.ensures.err),
)
