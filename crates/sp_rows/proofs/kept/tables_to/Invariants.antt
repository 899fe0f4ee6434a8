use Rattle.std.proofs.Common.{◌≡◌, map}
use Rattle.std.specs.List.{range_with_len}
use Rattle.sp_rows.specs.Tables as spec
use Rattle.sp_rows.proofs.kept.tables_to.Given as goal

abbrev pub invariant-loop-value : goal.invariant-loop-value
invariant-loop-value l = l.tables.items ≡ map (spec.table_to l.scope l.slot) (range_with_len 0 l.value)
