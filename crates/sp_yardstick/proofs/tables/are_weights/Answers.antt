use Rattle.std.proofs.Common.{arith, rules, ap}
use Rattle.std.specs.Prelude.{FitsSigned, unsigned_abs}
use Rattle.std.specs.Int.{w128}
use Rattle.std.proofs.lemmas.Int.{ints, to_z-of_z}
use Rattle.sp_dd.proofs.Diagramming.{on_true_from}
use Rattle.sp_yardstick.proofs.TotalGuards.{weights_are}
use Rattle.sp_yardstick.proofs.tables.are_weights.Goals as goal

pub returns : goal.returns
returns c =
    let fits_low : FitsSigned w128 c.least-low.result = search rules in
    let fits_high : FitsSigned w128 c.greatest-high.result = search rules in
    on_true_from _ _ _
    (weights_are c.args.w.now c.least-low.result c.greatest-high.result c.scope.result.now _ c.scope.ensures.known c.scope.ensures.value c.least-low.ensures c.greatest-high.ensures
    (omega (arith, ints, to_z-of_z w128 _ fits_low, c.if-low-lt0.false)) (ap unsigned_abs (to_z-of_z w128 _ fits_high)))
    c.is_total_within.ensures
