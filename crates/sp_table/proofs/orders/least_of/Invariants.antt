use Rattle.sp_table.specs.Cells.{IsLeastCell}
use Rattle.sp_table.proofs.orders.least_of.Given as goal

abbrev pub invariant-loop-cell : goal.invariant-loop-cell
invariant-loop-cell l = IsLeastCell l.cells l.cell-index l.least
