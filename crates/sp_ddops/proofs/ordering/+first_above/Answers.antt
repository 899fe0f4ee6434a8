use Rattle.std.proofs.Common.{◌≡◌, ◌∙◌, ◌<ℤ◌, ◌≤ℤ◌, arith, sym, subst₂, to_z, of_z}
use mir.Syntax.{w128}
use Rattle.std.proofs.lemmas.Grind.{common_steps}
use Rattle.sp_ddops.specs.Firsts.{values_in}
use Rattle.sp_ddops.proofs.ZeroLemmas.{true_of}
use Rattle.sp_ddops.proofs.FirstLemmas.{below_all, first_step, leaves_below, leaves_first, on_yes, on_no, point_here, point_there}
use Rattle.sp_ddops.proofs.DotLemmas.{branch_within}
use Rattle.sp_ddops.proofs.ordering.+first_above.Goals as goal

pub returns-then-slot-slots-clause-yes : goal.returns-then-slot-slots-clause-yes
returns-then-slot-slots-clause-yes t c =
    let x : to_z w128 (of_z w128 c.leaf_in.result) ≡ c.leaf_in.result = grind (arith, common_steps) in
    let y : to_z w128 (of_z w128 c.leaf_in-then-slot-slots.result) ≡ c.leaf_in-then-slot-slots.result = grind (arith, common_steps) in
    on_yes c.is_less-is_above.result _ _ (λ l. leaves_first c.args.compared.now.scope.now.sizes c.args.compared.now.left.now c.args.compared.now.right.now c.args.state c.args.from (values_in c.args.point.now) c.requires.pair (omega (arith, c.first_slot-slot.ensures, c.if-slot-slots.true, c.slots.ensures.value)) (subst₂ (λ a b. a <ℤ b) (x ∙ c.leaf_in.ensures) (y ∙ c.leaf_in-then-slot-slots.ensures) l) c.requires.blank) c.is_less-is_above.ensures.yes

pub returns-then-slot-slots-clause-no : goal.returns-then-slot-slots-clause-no
returns-then-slot-slots-clause-no t c =
    let x : to_z w128 (of_z w128 c.leaf_in.result) ≡ c.leaf_in.result = grind (arith, common_steps) in
    let y : to_z w128 (of_z w128 c.leaf_in-then-slot-slots.result) ≡ c.leaf_in-then-slot-slots.result = grind (arith, common_steps) in
    on_no c.is_less-is_above.result _ _ (λ l. leaves_below c.args.compared.now.scope.now.sizes c.args.compared.now.left.now c.args.compared.now.right.now c.args.state c.requires.pair (omega (arith, c.first_slot-slot.ensures, c.if-slot-slots.true, c.slots.ensures.value)) (subst₂ (λ a b. a ≤ℤ b) (y ∙ c.leaf_in-then-slot-slots.ensures) (x ∙ c.leaf_in.ensures) l)) c.is_less-is_above.ensures.no

pub returns-then-branch-clause-yes : goal.returns-then-branch-clause-yes
returns-then-branch-clause-yes t c =
    let low = branch_within c.args.compared.now.scope.now c.args.compared.now.left.now c.args.compared.now.right.now c.args.state c.first_slot-slot.result c.requires.pair c.first_slot-slot.ensures (λ e. c.if-slot-slots.false (e ∙ sym c.slots.ensures.value)) in
    first_step c.args.compared.now.scope.now.sizes c.args.compared.now.left.now c.args.compared.now.right.now c.args.state c.next_pair-next.result c.args.from c.first_slot-slot.result c.loop-value.value (values_in c.first_above.new.point) _ c.requires.pair (omega (arith, c.requires.from, c.first_slot-slot.ensures)) c.first_slot-slot.ensures low (omega (arith, c.loop-value-test.true, c.size-value-end.ensures)) c.next_pair-next.ensures c.loop-value.invariant.below (true_of _ _ c.if-branch.true c.in_ok-first_above.ensures.yes) (point_here c.first_above.new.point c.first_slot-slot.result c.loop-value.value (omega (arith, low, c.requires.long, c.loop-value.auto.point, c.first_above.auto.point))) (point_there c.first_above.new.point c.first_slot-slot.result c.loop-value.value)

pub remember-requires-clause-below : goal.remember-requires-clause-below
remember-requires-clause-below t c =
    let low = branch_within c.args.compared.now.scope.now c.args.compared.now.left.now c.args.compared.now.right.now c.args.state c.first_slot-slot.result c.requires.pair c.first_slot-slot.ensures (λ e. c.if-slot-slots.false (e ∙ sym c.slots.ensures.value)) in
    below_all c.args.compared.now.scope.now.sizes c.args.compared.now.left.now c.args.compared.now.right.now c.args.state c.first_slot-slot.result c.loop-value.value c.requires.pair low (omega (arith, c.loop-value-test.false, c.loop-value.auto.value-end, c.size-value-end.ensures)) c.loop-value.invariant.below

pub returns-clause-no : goal.returns-clause-no
returns-clause-no t c =
    let low = branch_within c.args.compared.now.scope.now c.args.compared.now.left.now c.args.compared.now.right.now c.args.state c.first_slot-slot.result c.requires.pair c.first_slot-slot.ensures (λ e. c.if-slot-slots.false (e ∙ sym c.slots.ensures.value)) in
    below_all c.args.compared.now.scope.now.sizes c.args.compared.now.left.now c.args.compared.now.right.now c.args.state c.first_slot-slot.result c.loop-value.value c.requires.pair low (omega (arith, c.loop-value-test.false, c.loop-value.auto.value-end, c.size-value-end.ensures)) c.loop-value.invariant.below
