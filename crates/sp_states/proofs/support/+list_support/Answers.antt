use Rattle.std.proofs.Common.{◌≡◌, ◌∙◌, ◌≤◌, length, unsigned_abs, replicate, pos, arith, ap, sym, subst, to_z, of_z}
use mir.Syntax.{w128}
use Rattle.std.proofs.lemmas.Grind.{common_steps}
use Rattle.std.proofs.lemmas.Int.{ints}
use Rattle.sp_states.specs.Walks.{IsWeight}
use Rattle.sp_states.proofs.Cofactors.{values_within, next_part}
use Rattle.sp_states.proofs.Blocks.{block_first, appended_as, appended_yes, appended_no, whole_weight}
use Rattle.sp_states.proofs.Parts.{leaf_over, leaf_all, branch_slot, branch_within, branch_all, block_within, support_more, support_past, support_done}
use Rattle.sp_states.proofs.support.+list_support.Goals as goal

pub overflow_cast-value : goal.overflow_cast-value
overflow_cast-value t c =
    let z : to_z w128 (of_z w128 c.in-Leaf.value) ≡ c.in-Leaf.value = grind (arith, common_steps) in
    let small : IsWeight c.in-Leaf.value = leaf_all IsWeight _ _ _ _ _ _ c.requires.part c.in-Leaf.is c.requires.weights in
    (omega (arith, ints, z, small.not_negative), omega (arith, ints, z, small.small))

pub returns-in-Leaf : goal.returns-in-Leaf
returns-in-Leaf t c =
    let z : to_z w128 (of_z w128 c.in-Leaf.value) ≡ c.in-Leaf.value = grind (arith, common_steps) in
    let small : IsWeight c.in-Leaf.value = leaf_all IsWeight _ _ _ _ _ _ c.requires.part c.in-Leaf.is c.requires.weights in
    let q = ap (λ x. replicate c.args.block.count (pos (unsigned_abs x))) z ∙ ap (replicate c.args.block.count) (whole_weight c.in-Leaf.value small.not_negative) ∙ sym (leaf_over _ _ _ _ _ _ c.requires.part c.in-Leaf.is) in
    appended_as _ c.args.block.first c.args.room _ _ _ _ q c.in_ok-whole.ensures

pub loop-value-init : goal.loop-value-init
loop-value-init t c = record { entries = block_first _ _; room = c.requires.room }

pub cofactor-next-requires-clause-value : goal.cofactor-next-requires-clause-value
cofactor-next-requires-clause-value t c =
    let low = branch_slot _ _ _ _ _ _ c.requires.part c.in_default.is in
    values_within c.args.scope.now c.args.nodes.now c.args.block.slot c.loop-value.value c.requires.part.ordered (branch_within _ _ _ _ _ _ _ c.requires.part low c.state_width-width.ensures.value c.loop-value-test.true)

pub list_support-requires : goal.list_support-requires
list_support-requires t c =
    let low = branch_slot _ _ _ _ _ _ c.requires.part c.in_default.is in
    (omega (arith, low, c.decreases), (next_part _ _ _ _ _ _ _ _ c.requires.part low c.state_width-width.ensures.value c.cofactor-next.ensures, (block_within _ _ _ _ _ _ _ _ c.requires.part low c.state_width-width.ensures.value c.loop-value-test.true c.requires.block, (branch_all IsWeight _ _ _ _ _ _ _ _ c.requires.part low c.state_width-width.ensures.value c.loop-value-test.true c.cofactor-next.ensures c.requires.weights, c.loop-value.invariant.room))))

pub returns-then-not-branch : goal.returns-then-not-branch
returns-then-not-branch t c =
    let low = branch_slot _ _ _ _ _ _ c.requires.part c.in_default.is in
    support_past c.args.scope.now c.args.nodes.now c.args.part _ c.args.block.slot c.args.block.count c.state_width-width.result c.loop-value.value c.args.block.first c.args.room _ _ c.requires.part low c.state_width-width.ensures.value c.loop-value-test.true c.cofactor-next.ensures c.loop-value.invariant.entries (appended_no _ c.args.room _ _ c.if-not-branch.true c.in_ok-list_support.ensures)

pub loop-value-preserved : goal.loop-value-preserved
loop-value-preserved t c =
    let low = branch_slot _ _ _ _ _ _ c.requires.part c.in_default.is in
    let yes = appended_yes _ c.args.room _ _ c.if-not-branch.false c.in_ok-list_support.ensures in
    record {
      entries = support_more c.args.scope.now c.args.nodes.now c.args.part _ c.args.block.slot c.args.block.count c.state_width-width.result c.loop-value.value c.args.block.first _ _ _ c.requires.part low c.state_width-width.ensures.value c.cofactor-next.ensures c.loop-value.invariant.entries yes.0;
      room = subst (λ x. length x ≤ c.args.room) (sym yes.0) yes.1;
    }

pub returns : goal.returns
returns t c =
    let low = branch_slot _ _ _ _ _ _ c.requires.part c.in_default.is in
    let same = support_done c.args.scope.now c.args.nodes.now c.args.part c.args.block.slot c.args.block.count c.state_width-width.result c.loop-value.value c.args.block.first _ _ c.requires.part low c.state_width-width.ensures.value (omega (arith, c.loop-value-test.false, c.loop-value.auto.value-end)) c.loop-value.invariant.entries in
    (same, subst (λ x. length x ≤ c.args.room) same c.loop-value.invariant.room)
