use Rattle.std.proofs.Common.{◌≤◌, ◌-◌, length}
use Rattle.sp_belief.specs.Progress.{IsCarrying, IsOnTheWay}
use Rattle.sp_belief.proofs.carried.Carried.through.Given as goal

abbrev pub invariant-loop-table : goal.invariant-loop-table
invariant-loop-table l = record {
  within : l.table ≤ length l.model.variables;
  carrying : IsCarrying l.model l.action l.table l.func;
  way : IsOnTheWay l.model l.action 0 l.weights l.table l.func;
}

abbrev pub decreases-loop-table : goal.decreases-loop-table
decreases-loop-table l = length l.model.variables - l.table
