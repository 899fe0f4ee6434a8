use Rattle.std.proofs.Common.{arith, ap}
use Rattle.std.specs.Prelude.{unsigned_abs}
use Rattle.std.specs.Int.{w128}
use Rattle.std.proofs.lemmas.Int.{to_z-of_z}
use Rattle.sp_yardstick.proofs.TotalGuards.{times_small}
use Rattle.sp_yardstick.proofs.bounds.multiplicand.Goals as goal

pub returns : goal.returns
returns c v small =
    times_small c.args.k v _ _ (omega (arith, c.max.ensures, c.unsigned_abs.ensures.value, ap unsigned_abs (to_z-of_z w128 _ c.ranges.k))) small
