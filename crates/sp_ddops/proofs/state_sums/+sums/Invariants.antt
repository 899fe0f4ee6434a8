use Rattle.std.proofs.Common.{◌≡◌, ◌+◌, ◌*◌}
use Rattle.sp_dd.specs.Floors.{sum_to}
use Rattle.sp_dd.specs.Ordered.{height}
use Rattle.sp_ddops.specs.StateSums.{widths_of, pair_value, AreSums}
use Rattle.sp_ddops.proofs.StateSumLemmas.{part_sum}
use Rattle.sp_ddops.proofs.state_sums.+sums.Given as goal

abbrev pub decreases-sum_from : goal.decreases-sum_from
decreases-sum_from l = 2 * (height l.state.left + height l.state.right) + 1

abbrev pub decreases-sum_of_nodes : goal.decreases-sum_of_nodes
decreases-sum_of_nodes l = 2 * (height l.state.left + height l.state.right)

abbrev pub invariant-sum_of_nodes-loop-value : goal.invariant-sum_of_nodes-loop-value
invariant-sum_of_nodes-loop-value l =
    record {
      sum : l.sum ≡ sum_to l.value (part_sum (widths_of l.factors.scope.now) l.slot (pair_value l.factors.left.now l.factors.right.now l.state));
      known : AreSums l.factors.scope.now l.factors.left.now l.factors.right.now l.known;
    }
