use Rattle.std.proofs.Common.{◌≡◌, ◌≤◌, length}
use Rattle.sp_core.specs.Marks.{neither_below}
use Rattle.sp_core.proofs.picking.nth.Given as goal

abbrev pub invariant-loop-k : goal.invariant-loop-k
invariant-loop-k l = (l.found ≡ length (neither_below l.k l.marks l.others)) × (l.found ≤ l.place)
