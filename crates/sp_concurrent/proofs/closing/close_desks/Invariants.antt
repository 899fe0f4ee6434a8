use Rattle.std.specs.List.{AllZip}
use Rattle.sp_concurrent.specs.Served.{IsClosed}
use Rattle.sp_concurrent.proofs.closing.close_desks.Given as goal

abbrev pub invariant-loop-run : goal.invariant-loop-run
invariant-loop-run l = AllZip (IsClosed l.end) l.yielded l.desks.items
