use Rattle.std.proofs.Common.{◌∙◌, ap, rules, subst, to_z}
use Rattle.std.specs.Prelude.{FitsSigned}
use Rattle.std.specs.Int.{w128, int_max}
use Rattle.std.proofs.lemmas.Int.{to_z-of_z}
use Rattle.sp_dd.specs.Func.{Func}
use Rattle.sp_dd.specs.Operations.{IsGreatest}
use Rattle.sp_model.proofs.RewardRange.{greatest_more, item_is}
use Rattle.sp_model.proofs.range.greatest_reward.Goals as goal

pub loop-action-preserved : goal.loop-action-preserved
loop-action-preserved c =
    let fits : FitsSigned w128 c.max-found.result = search rules in
    let fits_here : FitsSigned w128 c.greatest.result = search rules in
    let P : Func → Type 0 = λ f. IsGreatest f c.greatest.result in
    greatest_more c.args.actions.now c.loop-action.action-index _ c.greatest.result _ c.loop-action-test.true c.loop-action.invariant
    (subst P (item_is c.args.actions.now c.loop-action.action-index c.action-item.result c.loop-action-test.true c.action-item.is) c.greatest.ensures)
    (to_z-of_z w128 _ fits ∙ c.max-found.ensures.value ∙ ap (int_max (to_z w128 c.loop-action.found-bits)) (to_z-of_z w128 _ fits_here))
