use Rattle.std.proofs.Common.{ℕ, ◌<◌}
use Rattle.std.specs.Prelude.{◌*ℤ◌}
use Rattle.sp_dd.specs.Points.{point_at}
use Rattle.sp_dd.specs.Func.{value_of}
use Rattle.sp_dd.specs.Operations.{IsWholeTick}
use Rattle.sp_table.proofs.pointwise.first_partial.Given as goal

abbrev pub invariant-loop-k : goal.invariant-loop-k
invariant-loop-k l = (j : ℕ) → j < l.k → IsWholeTick (value_of l.f (point_at l.widths j) *ℤ value_of l.g (point_at l.widths j))
