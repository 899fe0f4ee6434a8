use Rattle.std.proofs.Common.{◌≡◌, ◌≤◌, ◌-◌, ◌*◌, ◌^◌, ◌+ℤ◌, unsigned_abs, drop}
use Rattle.sp_ddops.specs.Sums.{leaf_total, AreLight}
use Rattle.sp_ddops.proofs.summing.total_in.Given as goal

abbrev pub invariant-loop-i : goal.invariant-loop-i
invariant-loop-i l = record {
  order : l.start ≤ l.i;
  within : l.i ≤ l.end;
  small : unsigned_abs l.sum ≤ (l.i - l.start) * 2 ^ 100;
  sum : l.sum +ℤ leaf_total (drop l.i l.list.items) ≡ leaf_total (drop l.start l.list.items);
  light : AreLight (drop l.i l.list.items);
}

abbrev pub decreases-loop-i : goal.decreases-loop-i
decreases-loop-i l = l.end - l.i
