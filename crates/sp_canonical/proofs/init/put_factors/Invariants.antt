use Rattle.std.proofs.Common.{drop}
use Rattle.sp_canonical.specs.ModelSigns.{factors_signs}
use Rattle.sp_canonical.proofs.Loops.{IsOnTheWay}
use Rattle.sp_canonical.proofs.init.put_factors.Given as goal

abbrev pub invariant-loop-i : goal.invariant-loop-i
invariant-loop-i l = IsOnTheWay l.fn.page l.page (factors_signs l.parts 0 l.factors) (factors_signs l.parts l.base (drop l.i l.factors))
