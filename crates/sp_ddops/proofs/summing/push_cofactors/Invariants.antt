use Rattle.std.proofs.Common.{◌≡◌, ◌≤◌, ◌-◌, ◌++◌, length, take, drop}
use Rattle.sp_ddops.specs.Sums.{cofactors, ArePairs}
use Rattle.sp_ddops.proofs.summing.push_cofactors.Given as goal

abbrev pub invariant-loop-i : goal.invariant-loop-i
invariant-loop-i l = record {
  order : l.start ≤ l.i;
  within : l.i ≤ l.end;
  long : length l.initial.list.items ≤ length l.list.items;
  kept : take (length l.initial.list.items) l.list.items ≡ l.initial.list.items;
  made : l.list.items ++ cofactors l.left l.right l.slot l.value (drop l.i (take l.end l.initial.list.items)) ≡ l.initial.list.items ++ cofactors l.left l.right l.slot l.value (drop l.start (take l.end l.initial.list.items));
  pairs : ArePairs l.left l.right (drop l.i (take l.end l.initial.list.items));
}

abbrev pub decreases-loop-i : goal.decreases-loop-i
decreases-loop-i l = l.end - l.i
