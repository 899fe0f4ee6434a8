use Rattle.std.proofs.Common.{◌≡◌, ◌≤◌, ◌*◌, ◌^◌}
use Rattle.std.specs.Prelude.{unsigned_abs, ◌*ℤ◌}
use Rattle.sp_dd.specs.Floors.{sum_to}
use Rattle.sp_dd.specs.Points.{point_at}
use Rattle.sp_dd.specs.Func.{value_of}
use Rattle.sp_table.proofs.totals.products.Given as goal

abbrev pub invariant-loop-k : goal.invariant-loop-k
invariant-loop-k l = record {
  sum_is : l.sum ≡ sum_to l.k (λ k. value_of l.w (point_at l.widths k) *ℤ value_of l.f (point_at l.widths k));
  small : unsigned_abs l.sum ≤ unsigned_abs (sum_to l.k (λ k. value_of l.w (point_at l.widths k))) * 2 ^ 62;
}
