use Rattle.std.proofs.Common.{drop}
use Rattle.sp_canonical.specs.ModelSigns.{declarations_signs}
use Rattle.sp_canonical.proofs.Loops.{IsOnTheWay}
use Rattle.sp_canonical.proofs.declarations.put_each.Given as goal

abbrev pub invariant-loop-i : goal.invariant-loop-i
invariant-loop-i l = IsOnTheWay l.fn.page l.page (declarations_signs l.decls) (declarations_signs (drop l.i l.decls))
