use Rattle.std.proofs.Common.{◌≡◌, ◌≤◌, length, drop}
use Rattle.sp_dd.specs.Points.{product, place}
use Rattle.sp_table.proofs.places.place_in.Given as goal

abbrev pub invariant-loop-i : goal.invariant-loop-i
invariant-loop-i l = record {
  within : l.i ≤ length l.widths;
  place_is : l.at ≡ place (drop l.i l.widths) (drop l.i l.point);
  stride_is : l.stride ≡ product (drop l.i l.widths);
}

abbrev pub decreases-loop-i : goal.decreases-loop-i
decreases-loop-i l = l.i
