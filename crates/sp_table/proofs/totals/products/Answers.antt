use Rattle.std.proofs.Common.{◌≤◌, ◌+◌, ◌^◌, ◌∙◌, ap, arith, rules, sym, to_z, of_z}
use Rattle.std.specs.Prelude.{FitsSigned, unsigned_abs, ◌+ℤ◌, ◌*ℤ◌}
use Rattle.std.specs.Int.{w128}
use Rattle.std.proofs.lemmas.Int.{to_z-of_z}
use Rattle.std.proofs.lemmas.Nat.{mul-le}
use Rattle.sp_dd.specs.Floors.{sum_to}
use Rattle.sp_dd.specs.Points.{point_at}
use Rattle.sp_dd.specs.Func.{value_of}
use Rattle.sp_table.proofs.FrameLemmas.{op_same, small_at, sum_to_more}
use Rattle.sp_table.proofs.TotalLemmas.{part_small, weight_small, weights_at, total-more, product-more}
use Rattle.sp_table.proofs.totals.products.Goals as goal

pub product_of-product-requires-clause-small_a : goal.product_of-product-requires-clause-small_a
product_of-product-requires-clause-small_a c =
    let fits : FitsSigned w128 c.value_in-weight.result = search rules in
    weight_small c.args.w.now c.args.widths.now c.loop-k.k c.args.count _ c.requires.w c.requires.not_negative c.requires.total c.loop-k-test.true (to_z-of_z w128 _ fits ∙ c.value_in-weight.ensures)

pub product_of-product-requires-clause-small_b : goal.product_of-product-requires-clause-small_b
product_of-product-requires-clause-small_b c =
    let fits : FitsSigned w128 c.value_in-value.result = search rules in
    small_at (λ z. unsigned_abs z ≤ 2 ^ 62) c.args.f.now c.args.widths.now c.loop-k.k _ c.requires.f c.requires.small (to_z-of_z w128 _ fits ∙ c.value_in-value.ensures)

pub sum_of-sum-requires-clause-small_a : goal.sum_of-sum-requires-clause-small_a
sum_of-sum-requires-clause-small_a c =
    let part = part_small c.args.count c.loop-k.k (λ k. value_of c.args.w.now (point_at c.args.widths.now k)) (2 ^ 62) (weights_at c.args.w.now c.args.widths.now c.requires.w c.requires.not_negative) (omega arith) c.requires.total in
    omega (arith, c.loop-k.invariant.small, part)

pub sum_of-sum-requires-clause-small_b : goal.sum_of-sum-requires-clause-small_b
sum_of-sum-requires-clause-small_b c =
    let fits : FitsSigned w128 c.product_of-product.result = search rules in
    let fits_w : FitsSigned w128 c.value_in-weight.result = search rules in
    let fits_v : FitsSigned w128 c.value_in-value.result = search rules in
    let weight = weight_small c.args.w.now c.args.widths.now c.loop-k.k c.args.count _ c.requires.w c.requires.not_negative c.requires.total c.loop-k-test.true (to_z-of_z w128 _ fits_w ∙ c.value_in-weight.ensures) in
    let value = small_at (λ z. unsigned_abs z ≤ 2 ^ 62) c.args.f.now c.args.widths.now c.loop-k.k _ c.requires.f c.requires.small (to_z-of_z w128 _ fits_v ∙ c.value_in-value.ensures) in
    omega (arith, ap unsigned_abs (to_z-of_z w128 _ fits), c.product_of-product.ensures.bound, mul-le _ _ _ _ weight value)

pub loop-k-preserved : goal.loop-k-preserved
loop-k-preserved c =
    let fits : FitsSigned w128 c.sum_of-sum.result = search rules in
    let fits_p : FitsSigned w128 c.product_of-product.result = search rules in
    let fits_w : FitsSigned w128 c.value_in-weight.result = search rules in
    let fits_v : FitsSigned w128 c.value_in-value.result = search rules in
    let weight = to_z-of_z w128 _ fits_w ∙ c.value_in-weight.ensures in
    let value = to_z-of_z w128 _ fits_v ∙ c.value_in-value.ensures in
    let right = to_z-of_z w128 _ fits_p ∙ c.product_of-product.ensures.value ∙ op_same (λ a b. a *ℤ b) _ _ _ _ weight value in
    let new = to_z-of_z w128 _ fits in
    let total = total-more c.loop-k.k (λ k. value_of c.args.w.now (point_at c.args.widths.now k)) (weights_at c.args.w.now c.args.widths.now c.requires.w c.requires.not_negative) in
    record {
      sum_is = new ∙ c.sum_of-sum.ensures.value ∙ op_same (λ a b. a +ℤ b) _ _ _ _ c.loop-k.invariant.sum_is right ∙ sym (sum_to_more c.loop-k.k _);
      small = product-more (to_z w128 (of_z w128 c.sum_of-sum.result)) (to_z w128 c.loop-k.sum-bits) (to_z w128 (of_z w128 c.product_of-product.result)) (to_z w128 (of_z w128 c.value_in-weight.result)) (to_z w128 (of_z w128 c.value_in-value.result)) _ _
          (omega (arith, ap unsigned_abs new, c.sum_of-sum.ensures.bound))
          (omega (arith, ap unsigned_abs (to_z-of_z w128 _ fits_p), c.product_of-product.ensures.bound))
          (small_at (λ z. unsigned_abs z ≤ 2 ^ 62) c.args.f.now c.args.widths.now c.loop-k.k _ c.requires.f c.requires.small value)
          c.loop-k.invariant.small
          (total ∙ ap (λ z. unsigned_abs (sum_to c.loop-k.k (λ k. value_of c.args.w.now (point_at c.args.widths.now k))) + unsigned_abs z) (sym weight));
    }
