use Rattle.std.proofs.Common.{◌≡◌}
use Rattle.sp_desk.specs.Runs.{left_of, work_of}
use Rattle.sp_concurrent.proofs.closing.close_desk.Given as goal

abbrev pub invariant-loop-run : goal.invariant-loop-run
invariant-loop-run l = record {
  work : work_of l.run ≡ work_of l.fn.run;
  list : l.run.desk.known.list ≡ l.fn.run.desk.known.list;
}

abbrev pub decreases-loop-run : goal.decreases-loop-run
decreases-loop-run l = left_of l.run
