use Rattle.std.proofs.Common.{◌≤◌, ◌^◌, ◌∙◌, ap, rules}
use Rattle.std.specs.Prelude.{unsigned_abs, FitsSigned, ◌*ℤ◌}
use Rattle.std.specs.Int.{w128}
use Rattle.std.proofs.lemmas.Int.{to_z-of_z}
use Rattle.sp_dd.specs.Floors.{floor_div, ticks}
use Rattle.sp_table.proofs.FrameLemmas.{made_more, op_same, small_at}
use Rattle.sp_table.proofs.pointwise.floored_products.Goals as goal

pub product_of-requires-clause-small_a : goal.product_of-requires-clause-small_a
product_of-requires-clause-small_a c =
    let fits : FitsSigned w128 c.value_in-a.result = search rules in
    small_at (λ v. unsigned_abs v ≤ 2 ^ 62) c.args.f.now c.args.widths.now c.loop-k.k _ c.requires.f c.requires.small_f (to_z-of_z w128 _ fits ∙ c.value_in-a.ensures)

pub product_of-requires-clause-small_b : goal.product_of-requires-clause-small_b
product_of-requires-clause-small_b c =
    let fits : FitsSigned w128 c.value_in-b.result = search rules in
    small_at (λ v. unsigned_abs v ≤ 2 ^ 62) c.args.g.now c.args.widths.now c.loop-k.k _ c.requires.g c.requires.small_g (to_z-of_z w128 _ fits ∙ c.value_in-b.ensures)

pub loop-k-preserved : goal.loop-k-preserved
loop-k-preserved c =
    let fits : FitsSigned w128 c.floor_of.result = search rules in
    let fits_p : FitsSigned w128 c.product_of.result = search rules in
    let fits_a : FitsSigned w128 c.value_in-a.result = search rules in
    let fits_b : FitsSigned w128 c.value_in-b.result = search rules in
    let left = to_z-of_z w128 _ fits_a ∙ c.value_in-a.ensures in
    let right = to_z-of_z w128 _ fits_b ∙ c.value_in-b.ensures in
    let product = to_z-of_z w128 _ fits_p ∙ c.product_of.ensures.value ∙ op_same (λ a b. a *ℤ b) _ _ _ _ left right in
    let here = to_z-of_z w128 _ fits ∙ c.floor_of.ensures ∙ ap (λ z. floor_div z ticks) product in
    made_more _ _ _ c.loop-k.k _ c.loop-k.invariant c.in_ok-push.ensures.items here
