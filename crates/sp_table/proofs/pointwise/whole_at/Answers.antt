use Rattle.std.proofs.Common.{◌≤◌, ◌^◌, ◌∙◌, ap, arith, rules, to_z, of_z}
use Rattle.std.specs.Prelude.{unsigned_abs, FitsSigned}
use Rattle.std.specs.Int.{w128}
use Rattle.std.proofs.lemmas.Int.{to_z-of_z}
use Rattle.std.proofs.lemmas.Nat.{mul-le}
use Rattle.sp_table.proofs.FrameLemmas.{small_at}
use Rattle.sp_table.proofs.WholeLemmas.{floor_small}
use Rattle.sp_table.proofs.pointwise.whole_at.Goals as goal

pub product_of-product-requires-clause-small_a : goal.product_of-product-requires-clause-small_a
product_of-product-requires-clause-small_a c =
    let fits : FitsSigned w128 c.value_in-a.result = search rules in
    small_at (λ v. unsigned_abs v ≤ 2 ^ 62) c.args.f.now c.args.widths.now c.args.k _ c.requires.f c.requires.small_f (to_z-of_z w128 _ fits ∙ c.value_in-a.ensures)

pub product_of-product-requires-clause-small_b : goal.product_of-product-requires-clause-small_b
product_of-product-requires-clause-small_b c =
    let fits : FitsSigned w128 c.value_in-b.result = search rules in
    small_at (λ v. unsigned_abs v ≤ 2 ^ 62) c.args.g.now c.args.widths.now c.args.k _ c.requires.g c.requires.small_g (to_z-of_z w128 _ fits ∙ c.value_in-b.ensures)

pub in_ticks-requires : goal.in_ticks-requires
in_ticks-requires c =
    let fits : FitsSigned w128 c.floor_of.result = search rules in
    let fits_p : FitsSigned w128 c.product_of-product.result = search rules in
    let fits_a : FitsSigned w128 c.value_in-a.result = search rules in
    let fits_b : FitsSigned w128 c.value_in-b.result = search rules in
    let a = small_at (λ v. unsigned_abs v ≤ 2 ^ 62) c.args.f.now c.args.widths.now c.args.k _ c.requires.f c.requires.small_f (to_z-of_z w128 _ fits_a ∙ c.value_in-a.ensures) in
    let b = small_at (λ v. unsigned_abs v ≤ 2 ^ 62) c.args.g.now c.args.widths.now c.args.k _ c.requires.g c.requires.small_g (to_z-of_z w128 _ fits_b ∙ c.value_in-b.ensures) in
    let small : unsigned_abs (to_z w128 (of_z w128 c.product_of-product.result)) ≤ 2 ^ 124 = omega (arith, ap unsigned_abs (to_z-of_z w128 _ fits_p), c.product_of-product.ensures.bound, mul-le _ _ _ _ a b) in
    floor_small _ _ (to_z-of_z w128 _ fits ∙ c.floor_of.ensures) small
