use Rattle.std.proofs.Common.{◌≡◌, ◌++◌, drop}
use Rattle.sp_ddops.specs.Sums.{spread_to}
use Rattle.sp_ddops.proofs.summing.spread.Given as goal

abbrev pub invariant-loop-value : goal.invariant-loop-value
invariant-loop-value l = l.list.items ≡ l.initial.list.items ++ spread_to l.sum.left.now l.sum.right.now l.sum.at l.value (drop l.start l.initial.list.items)
