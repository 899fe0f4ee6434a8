use Rattle.std.proofs.Common.{◌≤◌, ◌*◌, ◌^◌, ◌∙◌, ap, arith, rules, sym, to_z, of_z}
use Rattle.std.specs.Prelude.{FitsSigned, unsigned_abs, ◌+ℤ◌, ◌*ℤ◌}
use Rattle.std.specs.Int.{w128}
use Rattle.std.proofs.lemmas.Int.{to_z-of_z}
use Rattle.std.proofs.lemmas.Nat.{mul-le}
use Rattle.sp_dd.specs.Floors.{ticks}
use Rattle.sp_dd.proofs.ScopeLemmas.{AllSizes-get_or}
use Rattle.sp_table.proofs.FrameLemmas.{op_same, small_with, sum_to_more}
use Rattle.sp_table.proofs.slotwise.slot_mean.Goals as goal
use Rattle.sp_table.proofs.slotwise.slot_mean.Goals.{After-product_of-product}

pub product_of-product-requires-clause-small_a : goal.product_of-product-requires-clause-small_a
product_of-product-requires-clause-small_a c =
    let fits : FitsSigned w128 c.value_with-weight.result = search rules in
    let less = small_with (λ z. unsigned_abs z ≤ ticks) c.args.p.now c.args.widths.now c.args.k c.args.slot c.loop-v.v _ c.requires.p (omega (arith, c.requires.size_p)) c.requires.weights (to_z-of_z w128 _ fits ∙ c.value_with-weight.ensures) in
    omega (arith, less)

pub product_of-product-requires-clause-small_b : goal.product_of-product-requires-clause-small_b
product_of-product-requires-clause-small_b c =
    let fits : FitsSigned w128 c.value_with-value.result = search rules in
    small_with (λ z. unsigned_abs z ≤ 2 ^ 62) c.args.f.now c.args.widths.now c.args.k c.args.slot c.loop-v.v _ c.requires.f (omega (arith, c.requires.size)) c.requires.small (to_z-of_z w128 _ fits ∙ c.value_with-value.ensures)

-- the product is small
small : (c : After-product_of-product) → unsigned_abs (to_z w128 (of_z w128 c.product_of-product.result)) ≤ ticks * 2 ^ 62
small c =
    let fits : FitsSigned w128 c.product_of-product.result = search rules in
    let fits_w : FitsSigned w128 c.value_with-weight.result = search rules in
    let fits_v : FitsSigned w128 c.value_with-value.result = search rules in
    let weight = small_with (λ z. unsigned_abs z ≤ ticks) c.args.p.now c.args.widths.now c.args.k c.args.slot c.loop-v.v _ c.requires.p (omega (arith, c.requires.size_p)) c.requires.weights (to_z-of_z w128 _ fits_w ∙ c.value_with-weight.ensures) in
    let value = small_with (λ z. unsigned_abs z ≤ 2 ^ 62) c.args.f.now c.args.widths.now c.args.k c.args.slot c.loop-v.v _ c.requires.f (omega (arith, c.requires.size)) c.requires.small (to_z-of_z w128 _ fits_v ∙ c.value_with-value.ensures) in
    omega (arith, ap unsigned_abs (to_z-of_z w128 _ fits), c.product_of-product.ensures.bound, mul-le _ _ _ _ weight value)

pub sum_of-sum-requires-clause-small_a : goal.sum_of-sum-requires-clause-small_a
sum_of-sum-requires-clause-small_a c =
    omega (arith, c.loop-v.invariant.small, c.requires.size, AllSizes-get_or c.args.f.now.shape.sizes c.args.slot c.requires.f.scope.each)

pub sum_of-sum-requires-clause-small_b : goal.sum_of-sum-requires-clause-small_b
sum_of-sum-requires-clause-small_b c = omega (arith, small c)

pub loop-v-preserved : goal.loop-v-preserved
loop-v-preserved c =
    let fits : FitsSigned w128 c.sum_of-sum.result = search rules in
    let fits_p : FitsSigned w128 c.product_of-product.result = search rules in
    let fits_w : FitsSigned w128 c.value_with-weight.result = search rules in
    let fits_v : FitsSigned w128 c.value_with-value.result = search rules in
    let factors = op_same (λ a b. a *ℤ b) _ _ _ _ (to_z-of_z w128 _ fits_w ∙ c.value_with-weight.ensures) (to_z-of_z w128 _ fits_v ∙ c.value_with-value.ensures) in
    let right = to_z-of_z w128 _ fits_p ∙ c.product_of-product.ensures.value ∙ factors in
    let new = to_z-of_z w128 _ fits in
    let weight = small_with (λ z. unsigned_abs z ≤ ticks) c.args.p.now c.args.widths.now c.args.k c.args.slot c.loop-v.v _ c.requires.p (omega (arith, c.requires.size_p)) c.requires.weights (to_z-of_z w128 _ fits_w ∙ c.value_with-weight.ensures) in
    let value = small_with (λ z. unsigned_abs z ≤ 2 ^ 62) c.args.f.now c.args.widths.now c.args.k c.args.slot c.loop-v.v _ c.requires.f (omega (arith, c.requires.size)) c.requires.small (to_z-of_z w128 _ fits_v ∙ c.value_with-value.ensures) in
    let most = mul-le _ _ _ _ weight value in
    record {
      sum_is = new ∙ c.sum_of-sum.ensures.value ∙ op_same (λ a b. a +ℤ b) _ _ _ _ c.loop-v.invariant.sum_is right ∙ sym (sum_to_more c.loop-v.v _);
      small = omega (arith, ap unsigned_abs new, c.sum_of-sum.ensures.bound, c.loop-v.invariant.small, ap unsigned_abs (to_z-of_z w128 _ fits_p), c.product_of-product.ensures.bound, most);
    }
