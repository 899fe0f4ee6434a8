use Rattle.sp_belief.specs.Tables.{AreChanceLists}
use Rattle.sp_belief.proofs.tables.ActionTables.new.Given as goal

abbrev pub invariant-loop-variable : goal.invariant-loop-variable
invariant-loop-variable l = AreChanceLists l.model l.action l.variable l.chances
