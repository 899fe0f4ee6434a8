use Rattle.std.proofs.Common.{◌≤◌, ◌^◌, ◌∙◌, ap, arith, rules, sym}
use Rattle.std.specs.Prelude.{FitsSigned, unsigned_abs, ◌+ℤ◌}
use Rattle.std.specs.Int.{w128}
use Rattle.std.proofs.lemmas.Int.{to_z-of_z}
use Rattle.sp_dd.proofs.ScopeLemmas.{AllSizes-get_or}
use Rattle.sp_table.proofs.FrameLemmas.{op_same, small_with, sum_to_more}
use Rattle.sp_table.proofs.slotwise.slot_sum.Goals as goal

pub sum_of-sum-requires-clause-small_a : goal.sum_of-sum-requires-clause-small_a
sum_of-sum-requires-clause-small_a c =
    omega (arith, c.loop-v.invariant.small, c.requires.size, AllSizes-get_or c.args.f.now.shape.sizes c.args.slot c.requires.f.scope.each)

pub sum_of-sum-requires-clause-small_b : goal.sum_of-sum-requires-clause-small_b
sum_of-sum-requires-clause-small_b c =
    let fits_v : FitsSigned w128 c.value_with-value.result = search rules in
    let less = small_with (λ z. unsigned_abs z ≤ 2 ^ 100) c.args.f.now c.args.widths.now c.args.k c.args.slot c.loop-v.v _ c.requires.f (omega (arith, c.requires.size)) c.requires.small (to_z-of_z w128 _ fits_v ∙ c.value_with-value.ensures) in
    omega (arith, less)

pub loop-v-preserved : goal.loop-v-preserved
loop-v-preserved c =
    let fits : FitsSigned w128 c.sum_of-sum.result = search rules in
    let fits_v : FitsSigned w128 c.value_with-value.result = search rules in
    let right = to_z-of_z w128 _ fits_v ∙ c.value_with-value.ensures in
    let new = to_z-of_z w128 _ fits in
    let less = small_with (λ z. unsigned_abs z ≤ 2 ^ 100) c.args.f.now c.args.widths.now c.args.k c.args.slot c.loop-v.v _ c.requires.f (omega (arith, c.requires.size)) c.requires.small right in
    record {
      sum_is = new ∙ c.sum_of-sum.ensures.value ∙ op_same (λ a b. a +ℤ b) _ _ _ _ c.loop-v.invariant.sum_is right ∙ sym (sum_to_more c.loop-v.v _);
      small = omega (arith, ap unsigned_abs new, c.sum_of-sum.ensures.bound, c.loop-v.invariant.small, less);
    }
