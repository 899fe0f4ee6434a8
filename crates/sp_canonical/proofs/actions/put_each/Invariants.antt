use Rattle.std.proofs.Common.{drop}
use Rattle.sp_canonical.specs.ModelSigns.{actions_signs}
use Rattle.sp_canonical.proofs.Loops.{IsOnTheWay}
use Rattle.sp_canonical.proofs.actions.put_each.Given as goal

abbrev pub invariant-loop-i : goal.invariant-loop-i
invariant-loop-i l = IsOnTheWay l.fn.page l.page (actions_signs l.parts l.fn.base l.actions) (actions_signs l.parts l.base (drop l.i l.actions))
