use Rattle.std.proofs.Common.{ℕ, ◌<◌, ◌≤◌}
use Rattle.sp_belief.specs.Tables.{IsKeptTable}
use Rattle.sp_belief.proofs.moving.kept_end.Given as goal

abbrev pub invariant-loop-variable : goal.invariant-loop-variable
invariant-loop-variable l = (k : ℕ) → l.fn.from ≤ k → k < l.variable → IsKeptTable l.model l.fn.action k
