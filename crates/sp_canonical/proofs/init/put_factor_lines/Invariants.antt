use Rattle.std.proofs.Common.{◌≡◌, ◌+◌, drop}
use Rattle.sp_canonical.specs.ModelSigns.{factor_tables, functions_lines, lines_total}
use Rattle.sp_canonical.proofs.Loops.{IsOnTheWay}
use Rattle.sp_canonical.proofs.init.put_factor_lines.Given as goal

abbrev pub invariant-loop-i : goal.invariant-loop-i
invariant-loop-i l = record {
  text : IsOnTheWay l.fn.page l.page (functions_lines l.parts 0 (factor_tables l.factors)) (functions_lines l.parts l.base (factor_tables (drop l.i l.factors)));
  count : l.base + lines_total (factor_tables (drop l.i l.factors)) ≡ lines_total (factor_tables l.factors);
}
