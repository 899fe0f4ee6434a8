use Rattle.sp_belief.specs.Tables.{AreChances}
use Rattle.sp_belief.proofs.tables.chances_of.Given as goal

abbrev pub invariant-loop-value : goal.invariant-loop-value
invariant-loop-value l = AreChances l.model l.action l.variable l.value l.chances
