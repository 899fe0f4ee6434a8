use Rattle.sp_table.specs.Cells.{IsGreatestOf}
use Rattle.sp_table.proofs.orders.greatest_of.Given as goal

abbrev pub invariant-loop-cell : goal.invariant-loop-cell
invariant-loop-cell l = IsGreatestOf l.cells l.cell-index l.greatest
