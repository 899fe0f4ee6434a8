use Rattle.std.proofs.Common.{ℕ, ◌<◌, ◌≤◌}
use Rattle.sp_dd.specs.Func.{IsIndependentOf}
use Rattle.sp_diagonals.specs.Diagonals.{filled_slot}
use Rattle.sp_diagonals.proofs.diagonals.is_filled.Given as goal

abbrev pub invariant-loop-variable : goal.invariant-loop-variable
invariant-loop-variable l = (v : ℕ) → l.fn.from ≤ v → v < l.variable → IsIndependentOf l.f (filled_slot l.fn.side v)
