use Rattle.std.proofs.Common.{ℕ, ◌+◌, ◌*◌, ◌<◌, ◌≤◌}
use Rattle.sp_ddops.specs.Diagonals.{IsIdentity}
use Rattle.sp_model.specs.Problem.{move_of}
use Rattle.sp_backup.proofs.moving.first_kept.Given as goal

abbrev pub invariant-loop-variable : goal.invariant-loop-variable
invariant-loop-variable l = (v : ℕ) → l.variable ≤ v → v < l.fn.end → IsIdentity (move_of l.model l.fn.action v) (2 * v + 1)
