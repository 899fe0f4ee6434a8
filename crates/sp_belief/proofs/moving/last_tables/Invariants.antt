use Rattle.sp_belief.specs.Tables.{AreLastTables}
use Rattle.sp_belief.proofs.moving.last_tables.Given as goal

abbrev pub invariant-loop-variable : goal.invariant-loop-variable
invariant-loop-variable l = AreLastTables l.model l.action l.variable l.last
