use Rattle.sp_desk.proofs.RunLemmas.{first_run}
use Rattle.sp_desk.proofs.runs.DeskRun.new.Goals as goal

pub invariant_of-result : goal.invariant_of-result
invariant_of-result c = first_run c.args.desk c.args.commands c.task.ensures.known c.as_slice.ensures.known c.requires.empty c.requires.within
