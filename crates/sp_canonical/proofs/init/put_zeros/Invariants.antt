use Rattle.std.proofs.Common.{drop}
use Rattle.sp_canonical.specs.ModelSigns.{zeros_signs}
use Rattle.sp_canonical.proofs.Loops.{IsOnTheWay}
use Rattle.sp_canonical.proofs.init.put_zeros.Given as goal

abbrev pub invariant-loop-i : goal.invariant-loop-i
invariant-loop-i l = IsOnTheWay l.fn.page l.page (zeros_signs l.parts l.variables) (zeros_signs l.parts (drop l.i l.variables))
