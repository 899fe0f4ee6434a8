use Rattle.std.proofs.Common.{◌≡◌, take, map}
use Rattle.sp_planner.proofs.Opening.{own_value}
use Rattle.sp_planner.proofs.values.opening_values.Given as goal

abbrev pub invariant-loop-number : goal.invariant-loop-number
invariant-loop-number l = l.values ≡ map own_value (take l.number l.book.editions)
