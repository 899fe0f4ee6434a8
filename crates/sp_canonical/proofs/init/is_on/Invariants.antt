use Rattle.std.proofs.Common.{◌≡◌, drop}
use Rattle.sp_canonical.specs.Tables.{is_on}
use Rattle.sp_canonical.proofs.init.is_on.Given as goal

abbrev pub invariant-loop-i : goal.invariant-loop-i
invariant-loop-i l = is_on (drop l.i l.nodes) l.slot ≡ is_on l.nodes l.slot
