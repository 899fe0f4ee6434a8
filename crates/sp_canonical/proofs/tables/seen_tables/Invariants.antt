use Rattle.std.proofs.Common.{◌≡◌, ◌++◌, drop}
use Rattle.std.specs.Prelude.{map}
use Rattle.sp_canonical.specs.Lent.{lent_table}
use Rattle.sp_canonical.specs.Tables.{named_tables}
use Rattle.sp_canonical.proofs.tables.seen_tables.Given as goal

abbrev pub invariant-loop-i : goal.invariant-loop-i
invariant-loop-i l = map lent_table l.tables.items ++ named_tables (drop l.i l.decls) (drop l.i l.sight) ≡ named_tables l.decls l.sight
