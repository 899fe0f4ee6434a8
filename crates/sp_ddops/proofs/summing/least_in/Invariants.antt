use Rattle.std.proofs.Common.{◌≡◌, ◌≤◌, ◌-◌, drop, min}
use Rattle.sp_ddops.specs.Sums.{least_of, ArePairs}
use Rattle.sp_ddops.proofs.summing.least_in.Given as goal

abbrev pub invariant-loop-i : goal.invariant-loop-i
invariant-loop-i l = record {
  order : l.start ≤ l.i;
  within : l.i ≤ l.end;
  low : l.least ≤ l.count;
  least : min l.least (least_of l.count l.sum.left.now l.sum.right.now (drop l.i l.list.items)) ≡ least_of l.count l.sum.left.now l.sum.right.now (drop l.start l.list.items);
  pairs : ArePairs l.sum.left.now l.sum.right.now (drop l.i l.list.items);
}

abbrev pub decreases-loop-i : goal.decreases-loop-i
decreases-loop-i l = l.end - l.i
