use Rattle.std.proofs.Common.{◌≡◌}
use Rattle.sp_rows.proofs.RowLemmas.{IsNumbered}
use Rattle.sp_rows.proofs.rows.row_number.Given as goal

abbrev pub invariant-loop-slot : goal.invariant-loop-slot
invariant-loop-slot l = IsNumbered l.scope l.table l.point l.slot l.row l.weight

abbrev pub decreases-loop-slot : goal.decreases-loop-slot
decreases-loop-slot l = l.slot
