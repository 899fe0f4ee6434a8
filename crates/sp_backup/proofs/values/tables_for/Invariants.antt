use Rattle.sp_backup.specs.MemberTables.{AreMemberTables}
use Rattle.sp_backup.proofs.values.tables_for.Given as goal

abbrev pub invariant-loop-place : goal.invariant-loop-place
invariant-loop-place l = AreMemberTables l.edition l.place l.tables.items
