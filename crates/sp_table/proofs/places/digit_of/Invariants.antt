use Rattle.std.proofs.Common.{◌≡◌, ◌≤◌, ◌<◌, ◌/◌, length, drop}
use Rattle.sp_dd.specs.Points.{product}
use Rattle.sp_table.proofs.places.digit_of.Given as goal

abbrev pub invariant-loop-i : goal.invariant-loop-i
invariant-loop-i l = record {
  past : l.slot < l.i;
  within : l.i ≤ length l.widths;
  rest_is : l.rest ≡ l.k / product (drop l.i l.widths);
}

abbrev pub decreases-loop-i : goal.decreases-loop-i
decreases-loop-i l = l.i
