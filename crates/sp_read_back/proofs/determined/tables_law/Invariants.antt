use Rattle.std.proofs.Common.{take}
use Rattle.std.specs.Prelude.{All}
use Rattle.sp_dd.specs.Func.{IsFunc}
use Rattle.sp_read_back.proofs.determined.tables_law.Given as goal

abbrev pub invariant-loop-table : goal.invariant-loop-table
invariant-loop-table l = All IsFunc (take l.table-index l.tables)
