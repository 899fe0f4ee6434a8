use Rattle.std.proofs.Common.{◌≡◌, take}
use Rattle.sp_dd.specs.Points.{point_at}
use Rattle.sp_table.proofs.comparing.point_of.Given as goal

abbrev pub invariant-loop-slot : goal.invariant-loop-slot
invariant-loop-slot l = l.point ≡ take l.slot (point_at l.widths l.k)
