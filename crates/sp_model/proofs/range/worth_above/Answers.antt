use Rattle.std.proofs.Common.{◌≡◌, ◌-◌, ◌∙◌, ap, rules, to_z, of_z}
use Rattle.std.specs.Prelude.{FitsSigned, ℤ, pos, neg_ℤ, ◌-ℤ◌, ◌*ℤ◌}
use Rattle.std.specs.Int.{w128, int_div_euclid}
use Rattle.std.proofs.lemmas.Int.{to_z-of_z}
use Rattle.sp_model.proofs.Whole.{zero_minus}
use Rattle.sp_model.proofs.range.worth_above.Goals as goal

pub returns : goal.returns
returns c =
    let fits_reward : FitsSigned w128 c.args.reward = search rules in
    let fits_product : FitsSigned w128 (pos 1000000000 *ℤ to_z w128 (of_z w128 c.args.reward)) = search rules in
    let fits_turned : FitsSigned w128 (pos 0 -ℤ to_z w128 (of_z w128 (pos 1000000000 *ℤ to_z w128 (of_z w128 c.args.reward)))) = search rules in
    let divisor : to_z w128 (of_z w128 (pos 1000000000 -ℤ to_z w128 c.args.discount)) ≡ pos (1000000000 - c.args.discount) = search rules in
    let fits_quotient : FitsSigned w128 c.div_euclid.result = search rules in
    let fits : FitsSigned w128 (pos 0 -ℤ to_z w128 (of_z w128 c.div_euclid.result)) = search rules in
    to_z-of_z w128 _ fits
    ∙ ap (λ (z : ℤ). pos 0 -ℤ z)
    (to_z-of_z w128 _ fits_quotient
    ∙ c.div_euclid.ensures
    ∙ ap (λ (z : ℤ). int_div_euclid z (to_z w128 (of_z w128 (pos 1000000000 -ℤ to_z w128 c.args.discount))))
    (to_z-of_z w128 _ fits_turned ∙ ap (λ (z : ℤ). pos 0 -ℤ z) (to_z-of_z w128 _ fits_product ∙ ap (λ (z : ℤ). pos 1000000000 *ℤ z) (to_z-of_z w128 _ fits_reward)) ∙ zero_minus _)
    ∙ ap (λ (z : ℤ). int_div_euclid (neg_ℤ (pos 1000000000 *ℤ c.args.reward)) z) divisor)
    ∙ zero_minus _
