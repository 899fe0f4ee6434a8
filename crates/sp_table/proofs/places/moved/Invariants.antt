use Rattle.std.proofs.Common.{◌≡◌, ◌≤◌, ◌/◌, length, drop}
use Rattle.sp_dd.specs.Points.{product, place, point_at}
use Rattle.sp_table.proofs.places.moved.Given as goal

abbrev pub invariant-loop-i : goal.invariant-loop-i
invariant-loop-i l = record {
  within : l.i ≤ length l.widths;
  place_is : l.at ≡ place (drop l.i l.widths) (point_at (drop l.i l.from) l.k);
  rest_is : l.rest ≡ l.k / product (drop l.i l.from);
  stride_is : l.stride ≡ product (drop l.i l.widths);
}

abbrev pub decreases-loop-i : goal.decreases-loop-i
decreases-loop-i l = l.i
