use Rattle.sp_sampler.specs.Tables.{AreTablesOfFirst}
use Rattle.sp_sampler.proofs.tables.no_tables.Given as goal

abbrev pub invariant-loop-action : goal.invariant-loop-action
invariant-loop-action l = AreTablesOfFirst l.model l._action l.kept.items
