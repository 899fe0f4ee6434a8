use Rattle.std.proofs.Common.{◌≡◌, ◌++◌, drop}
use Rattle.std.specs.Prelude.{map}
use Rattle.sp_model.specs.Problem.{shape_of}
use Rattle.sp_canonical.specs.Lent.{lent_table}
use Rattle.sp_canonical.specs.Tables.{moving_tables}
use Rattle.sp_canonical.proofs.tables.moving_tables.Given as goal

abbrev pub invariant-loop-i : goal.invariant-loop-i
invariant-loop-i l = map lent_table l.tables.items ++ moving_tables (shape_of l.parts) l.i (drop l.i l.decls) (drop l.i l.moves) ≡ moving_tables (shape_of l.parts) 0 l.decls l.moves
