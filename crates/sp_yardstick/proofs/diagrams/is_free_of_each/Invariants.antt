use Rattle.std.proofs.Common.{ℕ, ◌<◌, ◌+◌, ◌*◌}
use Rattle.sp_dd.specs.Func.{IsIndependentOf}
use Rattle.sp_yardstick.proofs.diagrams.is_free_of_each.Given as goal

abbrev pub invariant-loop-i : goal.invariant-loop-i
invariant-loop-i l = (k : ℕ) → k < l.i → IsIndependentOf l.f (2 * k + l.first)
