use Rattle.std.proofs.Common.{◌≡◌, map}
use Rattle.std.specs.List.{range_with_len}
use Rattle.sp_dd.specs.Points.{point_at}
use Rattle.sp_dd.specs.Func.{value_of}
use Rattle.sp_table.proofs.renaming.values.Given as goal

abbrev pub invariant-loop-k : goal.invariant-loop-k
invariant-loop-k l = l.cells.items ≡ map (λ k. value_of l.f (point_at l.widths k)) (range_with_len 0 l.k)
