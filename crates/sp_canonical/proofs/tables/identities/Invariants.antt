use Rattle.std.proofs.Common.{◌≡◌}
use Rattle.std.specs.Prelude.{map}
use Rattle.std.specs.List.{range_with_len}
use Rattle.sp_rows.specs.Tables.{identity}
use Rattle.sp_canonical.proofs.tables.identities.Given as goal

abbrev pub invariant-loop-variable : goal.invariant-loop-variable
invariant-loop-variable l = l.tables.items ≡ map (identity l.scope) (range_with_len 0 l.variable)
