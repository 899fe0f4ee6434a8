use Rattle.std.proofs.Common.{◌≡◌, ◌≤◌, ◌*◌, ◌^◌}
use Rattle.std.specs.Prelude.{slice_set, unsigned_abs, ◌*ℤ◌}
use Rattle.sp_dd.specs.Floors.{sum_to, ticks}
use Rattle.sp_dd.specs.Points.{point_at}
use Rattle.sp_dd.specs.Func.{value_of}
use Rattle.sp_table.proofs.slotwise.slot_mean.Given as goal

abbrev pub invariant-loop-v : goal.invariant-loop-v
invariant-loop-v l = record {
  sum_is : l.sum ≡ sum_to l.v (λ v. value_of l.p (slice_set (point_at l.widths l.k) l.slot v) *ℤ value_of l.f (slice_set (point_at l.widths l.k) l.slot v));
  small : unsigned_abs l.sum ≤ l.v * (ticks * 2 ^ 62);
}
