use Rattle.std.proofs.Common.{◌≡◌, ◌+◌, length, arith, refl, ◌∙◌, to_z, of_z}
use mir.Syntax.{w128}
use Rattle.std.proofs.lemmas.Grind.{common_steps}
use Rattle.sp_ddops.proofs.SummingLemmas.{IsMore, is_more, sum_all}
use Rattle.sp_ddops.proofs.summing.total_in.Goals as goal

pub loop-i-preserved : goal.loop-i-preserved
loop-i-preserved c =
    let end : c.len-end.result ≡ length c.args.list.now.items = grind (arith, common_steps) in
    let e : to_z w128 (of_z w128 c.plus_product-sum.result) ≡ c.plus_product-sum.result = grind (arith, common_steps) in
    let h : IsMore c.args.list.now.items c.args.start (c.loop-i.i + 2) (to_z w128 (of_z w128 c.plus_product-sum.result)) =
    is_more c.args.list.now.items c.args.start c.loop-i.i (c.loop-i.i + 1) (c.loop-i.i + 2) _ _ (to_z w128 c.loop-i.sum-bits) _ (omega (arith, end, c.loop-i-test.true)) refl refl c.loop-i.invariant.order c.index.ensures c.index-in-loop-i.ensures c.loop-i.invariant.light c.loop-i.invariant.small c.loop-i.invariant.sum (e ∙ c.plus_product-sum.ensures) in
    record { order = omega (arith, c.loop-i.invariant.order); within = omega (arith, c.loop-i-test.true); small = h.small; sum = h.sum; light = h.light }

pub returns : goal.returns
returns c =
    let end : c.len-end.result ≡ length c.args.list.now.items = grind (arith, common_steps) in
    record { value = sum_all c.args.list.now.items c.args.start c.loop-i.i _ (omega (arith, end, c.loop-i-test.false)) c.loop-i.invariant.sum }
