use Rattle.std.proofs.Common.{◌≡◌, map}
use Rattle.std.specs.Prelude.{slice_set}
use Rattle.std.specs.List.{range_with_len}
use Rattle.sp_dd.specs.Floors.{floored_mean, ticks}
use Rattle.sp_dd.specs.Points.{point_at}
use Rattle.sp_dd.specs.Func.{value_of}
use Rattle.sp_table.proofs.slotwise.slot_means.Given as goal

abbrev pub invariant-loop-k : goal.invariant-loop-k
invariant-loop-k l = l.cells.items ≡ map (λ k. floored_mean ticks l.size (λ v. value_of l.p (slice_set (point_at l.widths k) l.slot v)) (λ v. value_of l.f (slice_set (point_at l.widths k) l.slot v))) (range_with_len 0 l.k)
