use Rattle.std.proofs.Common.{◌≡◌, ◌∙◌, ◌<◌, ◌≤◌, length, drop, arith, ap, to_z, of_z}
use mir.Syntax.{w128}
use Rattle.std.proofs.lemmas.Grind.{common_steps}
use Rattle.sp_ddops.specs.Sums.{sum_or_floor, least_of}
use Rattle.sp_ddops.proofs.SummingLemmas.{settled_behind, light_small, meaning_leaf}
use Rattle.sp_ddops.proofs.summing.ended.Goals as goal

pub returns-then-slot-slots-clause-branch : goal.returns-then-slot-slots-clause-branch
returns-then-slot-slots-clause-branch c =
    let low : c.args.slot < length c.args.sum.now.scope.now.sizes = omega (arith, c.if-slot-slots.true, c.slots.ensures.value) in
    settled_behind _ _ _ _ _ _ _ c.requires.sum c.requires.slot low

pub total_in-total-requires-clause-light : goal.total_in-total-requires-clause-light
total_in-total-requires-clause-light c =
    light_small c.requires.sum.tables.most_left c.requires.sum.tables.most_right c.requires.sum.tables.product _ c.requires.sum.small

pub returns-clause-leaf : goal.returns-clause-leaf
returns-clause-leaf c =
    let e : to_z w128 (of_z w128 c.finish-value.result) ≡ c.finish-value.result = grind (arith, common_steps) in
    let d : to_z w128 (of_z w128 c.total_in-total.result) ≡ c.total_in-total.result = grind (arith, common_steps) in
    let high : length c.args.sum.now.scope.now.sizes ≤ least_of (length c.args.sum.now.scope.now.sizes) c.args.sum.now.left.now c.args.sum.now.right.now (drop c.args.start c.args.list.now.items) = omega (arith, c.if-slot-slots.false, c.slots.ensures.value, c.requires.slot) in
    meaning_leaf _ _ _ _ _ _ _ c.requires.sum high (e ∙ c.finish-value.ensures ∙ ap (sum_or_floor c.args.sum.now.is_mean) (d ∙ c.total_in-total.ensures.value))
