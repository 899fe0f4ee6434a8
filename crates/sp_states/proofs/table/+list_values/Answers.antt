use Rattle.std.proofs.Common.{◌≡◌, ◌∙◌, ◌≤◌, ◌^◌, ◌++◌, unsigned_abs, replicate, arith, ap, sym, subst, to_z, of_z, FitsSigned}
use mir.Syntax.{w64, w128}
use Rattle.std.proofs.lemmas.Grind.{common_steps}
use Rattle.std.proofs.lemmas.Int.{to_z-of_z, fits_signed_from_abs}
use Rattle.sp_states.proofs.Cofactors.{values_within, next_part}
use Rattle.sp_states.proofs.Parts.{leaf_over, leaf_all, branch_slot, branch_within, branch_all, branch_done, branch_more}
use Rattle.sp_states.proofs.table.+list_values.Goals as goal

pub overflow_cast-value : goal.overflow_cast-value
overflow_cast-value t c =
    let z : to_z w128 (of_z w128 c.in-Leaf.value) ≡ c.in-Leaf.value = grind (arith, common_steps) in
    let small : unsigned_abs c.in-Leaf.value ≤ 2 ^ 62 = leaf_all (λ z. unsigned_abs z ≤ 2 ^ 62) _ _ _ _ _ _ c.requires.part c.in-Leaf.is c.requires.small in
    subst (FitsSigned w64) (sym z) (fits_signed_from_abs w64 c.in-Leaf.value (omega arith))

pub returns-in-Leaf : goal.returns-in-Leaf
returns-in-Leaf t c =
    let z : to_z w128 (of_z w128 c.in-Leaf.value) ≡ c.in-Leaf.value = grind (arith, common_steps) in
    let small : unsigned_abs c.in-Leaf.value ≤ 2 ^ 62 = leaf_all (λ z. unsigned_abs z ≤ 2 ^ 62) _ _ _ _ _ _ c.requires.part c.in-Leaf.is c.requires.small in
    let r = to_z-of_z w64 _ (subst (FitsSigned w64) (sym z) (fits_signed_from_abs w64 c.in-Leaf.value (omega arith))) ∙ z in
    c.in_ok-append.ensures ∙ ap (λ x. c.args.values.now.items ++ replicate c.args.count x) r ∙ ap (λ vs. c.args.values.now.items ++ vs) (sym (leaf_over _ _ _ _ _ _ c.requires.part c.in-Leaf.is))

pub cofactor-next-requires-clause-value : goal.cofactor-next-requires-clause-value
cofactor-next-requires-clause-value t c =
    let low = branch_slot _ _ _ _ _ _ c.requires.part c.in_default.is in
    values_within c.args.scope.now c.args.nodes.now c.args.slot c.loop-value.value c.requires.part.ordered (branch_within _ _ _ _ _ _ _ c.requires.part low c.state_width-width.ensures.value c.loop-value-test.true)

pub list_values-requires : goal.list_values-requires
list_values-requires t c =
    let low = branch_slot _ _ _ _ _ _ c.requires.part c.in_default.is in
    (omega (arith, low, c.decreases), (next_part _ _ _ _ _ _ _ _ c.requires.part low c.state_width-width.ensures.value c.cofactor-next.ensures, (branch_all (λ z. unsigned_abs z ≤ 2 ^ 62) _ _ _ _ _ _ _ _ c.requires.part low c.state_width-width.ensures.value c.loop-value-test.true c.cofactor-next.ensures c.requires.small)))

pub loop-value-preserved : goal.loop-value-preserved
loop-value-preserved t c = branch_more c.args.scope.now c.args.nodes.now c.args.part _ c.args.slot c.loop-value.value _ _ _ c.cofactor-next.ensures c.loop-value.invariant c.in_ok-list_values.ensures

pub returns : goal.returns
returns t c =
    let low = branch_slot _ _ _ _ _ _ c.requires.part c.in_default.is in
    branch_done c.args.scope.now c.args.nodes.now c.args.part c.args.slot c.args.count c.state_width-width.result c.loop-value.value _ _ c.requires.part low c.state_width-width.ensures.value (omega (arith, c.loop-value-test.false, c.loop-value.auto.value-end)) c.loop-value.invariant
