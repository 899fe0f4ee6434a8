use Rattle.std.proofs.Common.{◌≡◌, take, map}
use Rattle.std.specs.Arc.{arc_value}
use Rattle.sp_first_values.specs.FirstValues.{own_value}
use Rattle.sp_first_values.proofs.first_values.Given as goal

abbrev pub invariant-loop-k : goal.invariant-loop-k
invariant-loop-k l = l.values ≡ map own_value (take l.k (map arc_value l.editions))
