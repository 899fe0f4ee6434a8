use Rattle.std.proofs.Common.{drop, map}
use Rattle.sp_canonical.specs.Lent.{lent_table}
use Rattle.sp_canonical.specs.ModelSigns.{named_lines}
use Rattle.sp_canonical.proofs.Loops.{IsOnTheWay}
use Rattle.sp_canonical.proofs.actions.put_named.Given as goal

abbrev pub invariant-loop-i : goal.invariant-loop-i
invariant-loop-i l = IsOnTheWay l.fn.page l.page (named_lines l.fn.base (map lent_table l.tables)) (named_lines l.base (map lent_table (drop l.i l.tables)))
