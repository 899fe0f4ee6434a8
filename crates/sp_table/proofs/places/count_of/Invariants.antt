use Rattle.std.proofs.Common.{◌≡◌, ◌≤◌, ◌<◌, ◌^◌, length, drop}
use Rattle.sp_dd.specs.Points.{product}
use Rattle.sp_table.proofs.places.count_of.Given as goal

abbrev pub invariant-loop-i : goal.invariant-loop-i
invariant-loop-i l = record {
  within : l.i ≤ length l.widths;
  count_is : l.count ≡ product (drop l.i l.widths);
  fits : l.count < 2 ^ 63;
}

abbrev pub decreases-loop-i : goal.decreases-loop-i
decreases-loop-i l = l.i
