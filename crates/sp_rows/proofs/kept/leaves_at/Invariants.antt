use Rattle.std.proofs.Common.{◌≡◌, map}
use Rattle.std.specs.List.{range_with_len}
use Rattle.sp_rows.specs.Tables as spec
use Rattle.sp_rows.proofs.kept.leaves_at.Given as goal

abbrev pub invariant-loop-other : goal.invariant-loop-other
invariant-loop-other l = l.leaves.items ≡ map (spec.leaf_at l.value) (range_with_len 0 l.other)
