use Rattle.std.proofs.Common.{◌≡◌, drop, map}
use Rattle.sp_canonical.specs.Lent.{lent_table}
use Rattle.sp_canonical.specs.ModelSigns.{functions_lines, line_behind, tables_of}
use Rattle.sp_canonical.proofs.Loops.{IsOnTheWay}
use Rattle.sp_canonical.proofs.actions.put_table_lines.Given as goal

abbrev pub invariant-loop-i : goal.invariant-loop-i
invariant-loop-i l = record {
  text : IsOnTheWay l.fn.page l.page (functions_lines l.parts l.fn.base (tables_of (map lent_table l.tables))) (functions_lines l.parts l.base (tables_of (map lent_table (drop l.i l.tables))));
  next : line_behind l.base (map lent_table (drop l.i l.tables)) ≡ line_behind l.fn.base (map lent_table l.tables);
}
