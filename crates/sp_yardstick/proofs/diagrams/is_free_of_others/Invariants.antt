use Rattle.std.proofs.Common.{ℕ, ◌<◌, ◌+◌, ◌*◌}
use Rattle.sp_dd.specs.Func.{IsIndependentOf}
use Rattle.sp_yardstick.proofs.diagrams.is_free_of_others.Given as goal

abbrev pub invariant-loop-j : goal.invariant-loop-j
invariant-loop-j l = (k : ℕ) → k < l.j → IsIndependentOf l.f (2 * l.f.shape.variables + k)
