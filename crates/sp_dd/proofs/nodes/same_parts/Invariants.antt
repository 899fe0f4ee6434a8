use Rattle.std.proofs.Common.{◌≡◌, take, drop}
use Rattle.sp_dd.proofs.nodes.same_parts.Given as goal

abbrev pub invariant-loop-i : goal.invariant-loop-i
invariant-loop-i l = take l.i (drop l.from l.left) ≡ take l.i l.parts
