use Rattle.std.proofs.Common.{◌≡◌, take}
use Rattle.sp_ddops.proofs.ordering.first_of.Given as goal

abbrev pub invariant-loop-slot : goal.invariant-loop-slot
invariant-loop-slot l = l.ids ≡ take l.slot l.point
