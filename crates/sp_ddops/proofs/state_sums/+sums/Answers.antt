use Rattle.std.proofs.Common.{◌≡◌, ◌∙◌, ◌*ℤ◌, FitsSigned, arith, ap, ap₂, inl, inr, sym, subst₂, to_z, of_z}
use mir.Syntax.{w128}
use Rattle.std.proofs.lemmas.Grind.{common_steps}
use Rattle.std.proofs.lemmas.Int.{to_z-of_z}
use Rattle.sp_ddops.proofs.DotLemmas.{total_is, are_leaves, branch_within, next_pair, light_next, light_here, more_is, all_parts, values_within}
use Rattle.sp_ddops.proofs.FactorLemmas.{is_other, zero_sum, is_unit, is_scaled}
use Rattle.sp_ddops.specs.StateSums.{widths_of, sum_over, pair_value}
use Rattle.sp_ddops.proofs.state_sums.+sums.Goals as goal

pub sum_from-returns-then-is_same-clause-sum : goal.sum_from-returns-then-is_same-clause-sum
sum_from-returns-then-is_same-clause-sum t c = zero_sum c.args.factors.now.scope.now c.args.factors.now.left.now c.args.factors.now.right.now c.args.state c.args.from (inl (c.is_same.ensures.same.0 c.if-is_same.true))

pub sum_from-returns-then-is_same-2-clause-sum : goal.sum_from-returns-then-is_same-2-clause-sum
sum_from-returns-then-is_same-2-clause-sum t c = zero_sum c.args.factors.now.scope.now c.args.factors.now.left.now c.args.factors.now.right.now c.args.state c.args.from (inr (c.is_same-2.ensures.same.0 c.if-is_same-2.true))

pub sum_from-overflow_mul-product : goal.sum_from-overflow_mul-product
sum_from-overflow_mul-product t c =
    let x : to_z w128 (of_z w128 c.leaf_in.result) ≡ c.leaf_in.result = grind (arith, common_steps) in
    let y : to_z w128 (of_z w128 c.leaf_in-then-slot-slots.result) ≡ c.leaf_in-then-slot-slots.result = grind (arith, common_steps) in
    let h = are_leaves _ _ _ _ _ _ c.requires.scope c.requires.pair c.requires.from c.first_slot-slot.ensures (c.if-slot-slots.true ∙ c.slots.ensures.value) c.requires.light in
    subst₂ (λ a b. FitsSigned w128 (a *ℤ b)) (sym (x ∙ c.leaf_in.ensures)) (sym (y ∙ c.leaf_in-then-slot-slots.ensures)) h.fits

pub sum_from-times_skipped-requires-clause-fits : goal.sum_from-times_skipped-requires-clause-fits
sum_from-times_skipped-requires-clause-fits t c =
    let x : to_z w128 (of_z w128 c.leaf_in.result) ≡ c.leaf_in.result = grind (arith, common_steps) in
    let y : to_z w128 (of_z w128 c.leaf_in-then-slot-slots.result) ≡ c.leaf_in-then-slot-slots.result = grind (arith, common_steps) in
    let h = are_leaves _ _ _ _ _ _ c.requires.scope c.requires.pair c.requires.from c.first_slot-slot.ensures (c.if-slot-slots.true ∙ c.slots.ensures.value) c.requires.light in
    let z = to_z-of_z w128 _ (sum_from-overflow_mul-product t c) ∙ ap₂ (λ a b. a *ℤ b) (x ∙ c.leaf_in.ensures) (y ∙ c.leaf_in-then-slot-slots.ensures) ∙ h.sum in
    (total_is _ _ _ _ _ _ _ c.requires.pair c.requires.from c.first_slot-slot.ensures c.requires.light z).fits

pub sum_from-returns-then-slot-slots-clause-sum : goal.sum_from-returns-then-slot-slots-clause-sum
sum_from-returns-then-slot-slots-clause-sum t c =
    let x : to_z w128 (of_z w128 c.leaf_in.result) ≡ c.leaf_in.result = grind (arith, common_steps) in
    let y : to_z w128 (of_z w128 c.leaf_in-then-slot-slots.result) ≡ c.leaf_in-then-slot-slots.result = grind (arith, common_steps) in
    let r : to_z w128 (of_z w128 c.times_skipped.result) ≡ c.times_skipped.result = grind (arith, common_steps) in
    let h = are_leaves _ _ _ _ _ _ c.requires.scope c.requires.pair c.requires.from c.first_slot-slot.ensures (c.if-slot-slots.true ∙ c.slots.ensures.value) c.requires.light in
    let z = to_z-of_z w128 (to_z w128 (of_z w128 c.leaf_in.result) *ℤ to_z w128 (of_z w128 c.leaf_in-then-slot-slots.result)) (subst₂ (λ a b. FitsSigned w128 (a *ℤ b)) (sym (x ∙ c.leaf_in.ensures)) (sym (y ∙ c.leaf_in-then-slot-slots.ensures)) h.fits) ∙ ap₂ (λ a b. a *ℤ b) (x ∙ c.leaf_in.ensures) (y ∙ c.leaf_in-then-slot-slots.ensures) ∙ h.sum in
    r ∙ c.times_skipped.ensures ∙ (total_is _ _ _ _ _ _ _ c.requires.pair c.requires.from c.first_slot-slot.ensures c.requires.light z).is

pub sum_from-sum_of_nodes-requires : goal.sum_from-sum_of_nodes-requires
sum_from-sum_of_nodes-requires t c =
    let low = branch_within c.args.factors.now.scope.now c.args.factors.now.left.now c.args.factors.now.right.now c.args.state c.first_slot-slot.result c.requires.pair c.first_slot-slot.ensures (λ e. c.if-slot-slots.false (e ∙ sym c.slots.ensures.value)) in
    let light = light_here c.args.factors.now.scope.now c.args.factors.now.left.now c.args.factors.now.right.now c.args.state c.args.from c.first_slot-slot.result c.requires.scope c.requires.pair c.requires.from c.first_slot-slot.ensures c.requires.light in
    let u = is_unit c.args.factors.now.scope.now c.args.factors.now.left.now c.args.factors.now.right.now c.args.state c.first_slot-slot.result c.requires.pair c.first_slot-slot.ensures low (is_other _ _ _ c.if-is_same.false c.is_same.ensures.same) (is_other _ _ _ c.if-is_same-2.false c.is_same-2.ensures.same) light in
    rw c.ones_for_leaves.ensures (omega (arith, u.heights, c.decreases), (c.requires.scope, (u.pair, (u.again, (u.first, (low, (u.light, c.requires.known)))))))

pub sum_from-times_leaf-scaled-requires : goal.sum_from-times_leaf-scaled-requires
sum_from-times_leaf-scaled-requires t c =
    let low = branch_within c.args.factors.now.scope.now c.args.factors.now.left.now c.args.factors.now.right.now c.args.state c.first_slot-slot.result c.requires.pair c.first_slot-slot.ensures (λ e. c.if-slot-slots.false (e ∙ sym c.slots.ensures.value)) in
    let light = light_here c.args.factors.now.scope.now c.args.factors.now.left.now c.args.factors.now.right.now c.args.state c.args.from c.first_slot-slot.result c.requires.scope c.requires.pair c.requires.from c.first_slot-slot.ensures c.requires.light in
    let e : to_z w128 (of_z w128 c.in_ok-sum.sum) ≡ c.in_ok-sum.sum = grind (arith, common_steps) in
    let d = e ∙ c.in_ok-sum.ensures.sum ∙ ap (λ r. sum_over (widths_of c.args.factors.now.scope.now) c.first_slot-slot.result (pair_value c.args.factors.now.left.now c.args.factors.now.right.now r)) c.ones_for_leaves.ensures in
    let h = is_scaled c.args.factors.now.scope.now c.args.factors.now.left.now c.args.factors.now.right.now c.args.state c.first_slot-slot.result _ c.first_slot-slot.ensures low light d in
    h.fits

pub sum_from-times_skipped-requires-2-clause-fits : goal.sum_from-times_skipped-requires-2-clause-fits
sum_from-times_skipped-requires-2-clause-fits t c =
    let low = branch_within c.args.factors.now.scope.now c.args.factors.now.left.now c.args.factors.now.right.now c.args.state c.first_slot-slot.result c.requires.pair c.first_slot-slot.ensures (λ e. c.if-slot-slots.false (e ∙ sym c.slots.ensures.value)) in
    let light = light_here c.args.factors.now.scope.now c.args.factors.now.left.now c.args.factors.now.right.now c.args.state c.args.from c.first_slot-slot.result c.requires.scope c.requires.pair c.requires.from c.first_slot-slot.ensures c.requires.light in
    let e : to_z w128 (of_z w128 c.in_ok-sum.sum) ≡ c.in_ok-sum.sum = grind (arith, common_steps) in
    let d = e ∙ c.in_ok-sum.ensures.sum ∙ ap (λ r. sum_over (widths_of c.args.factors.now.scope.now) c.first_slot-slot.result (pair_value c.args.factors.now.left.now c.args.factors.now.right.now r)) c.ones_for_leaves.ensures in
    let h = is_scaled c.args.factors.now.scope.now c.args.factors.now.left.now c.args.factors.now.right.now c.args.state c.first_slot-slot.result _ c.first_slot-slot.ensures low light d in
    let x : to_z w128 (of_z w128 c.times_leaf-scaled.result) ≡ c.times_leaf-scaled.result = grind (arith, common_steps) in
    let total = total_is c.args.factors.now.scope.now c.args.factors.now.left.now c.args.factors.now.right.now c.args.state c.args.from c.first_slot-slot.result _ c.requires.pair c.requires.from c.first_slot-slot.ensures c.requires.light (x ∙ c.times_leaf-scaled.ensures ∙ h.is) in
    total.fits

pub sum_from-returns-clause-sum : goal.sum_from-returns-clause-sum
sum_from-returns-clause-sum t c =
    let low = branch_within c.args.factors.now.scope.now c.args.factors.now.left.now c.args.factors.now.right.now c.args.state c.first_slot-slot.result c.requires.pair c.first_slot-slot.ensures (λ e. c.if-slot-slots.false (e ∙ sym c.slots.ensures.value)) in
    let light = light_here c.args.factors.now.scope.now c.args.factors.now.left.now c.args.factors.now.right.now c.args.state c.args.from c.first_slot-slot.result c.requires.scope c.requires.pair c.requires.from c.first_slot-slot.ensures c.requires.light in
    let e : to_z w128 (of_z w128 c.in_ok-sum.sum) ≡ c.in_ok-sum.sum = grind (arith, common_steps) in
    let d = e ∙ c.in_ok-sum.ensures.sum ∙ ap (λ r. sum_over (widths_of c.args.factors.now.scope.now) c.first_slot-slot.result (pair_value c.args.factors.now.left.now c.args.factors.now.right.now r)) c.ones_for_leaves.ensures in
    let h = is_scaled c.args.factors.now.scope.now c.args.factors.now.left.now c.args.factors.now.right.now c.args.state c.first_slot-slot.result _ c.first_slot-slot.ensures low light d in
    let x : to_z w128 (of_z w128 c.times_leaf-scaled.result) ≡ c.times_leaf-scaled.result = grind (arith, common_steps) in
    let total = total_is c.args.factors.now.scope.now c.args.factors.now.left.now c.args.factors.now.right.now c.args.state c.args.from c.first_slot-slot.result _ c.requires.pair c.requires.from c.first_slot-slot.ensures c.requires.light (x ∙ c.times_leaf-scaled.ensures ∙ h.is) in
    let r : to_z w128 (of_z w128 c.times_skipped-2.result) ≡ c.times_skipped-2.result = grind (arith, common_steps) in
    r ∙ c.times_skipped-2.ensures ∙ total.is

pub sum_of_nodes-next_pair-next-requires-clause-left_value : goal.sum_of_nodes-next_pair-next-requires-clause-left_value
sum_of_nodes-next_pair-next-requires-clause-left_value t c =
    values_within c.args.factors.now.scope.now c.args.factors.now.left.now c.args.slot c.loop-value.value c.requires.scope c.requires.pair.left c.requires.within (omega (arith, c.loop-value-test.true, c.state_width-value-end.ensures))

pub sum_of_nodes-next_pair-next-requires-clause-right_value : goal.sum_of_nodes-next_pair-next-requires-clause-right_value
sum_of_nodes-next_pair-next-requires-clause-right_value t c =
    values_within c.args.factors.now.scope.now c.args.factors.now.right.now c.args.slot c.loop-value.value c.requires.scope c.requires.pair.right c.requires.within (omega (arith, c.loop-value-test.true, c.state_width-value-end.ensures))

pub sum_of_nodes-sum_from-requires : goal.sum_of_nodes-sum_from-requires
sum_of_nodes-sum_from-requires t c =
    let n = next_pair c.args.factors.now.scope.now.sizes c.args.factors.now.left.now c.args.factors.now.right.now c.args.state c.next_pair-next.result c.args.slot c.loop-value.value c.requires.pair c.requires.slot c.requires.within c.next_pair-next.ensures in
    let light = light_next c.args.factors.now.scope.now c.args.factors.now.left.now c.args.factors.now.right.now c.args.state c.next_pair-next.result c.args.slot c.loop-value.value c.requires.pair c.requires.slot c.requires.within (omega (arith, c.loop-value-test.true, c.state_width-value-end.ensures)) c.requires.light n in
    let smaller = n.smaller in
    (omega (arith, smaller, c.decreases), (c.requires.scope, (n.pair, (omega (arith, n.from), (light, c.loop-value.invariant.known)))))

pub sum_of_nodes-overflow_add-sum : goal.sum_of_nodes-overflow_add-sum
sum_of_nodes-overflow_add-sum t c =
    let n = next_pair c.args.factors.now.scope.now.sizes c.args.factors.now.left.now c.args.factors.now.right.now c.args.state c.next_pair-next.result c.args.slot c.loop-value.value c.requires.pair c.requires.slot c.requires.within c.next_pair-next.ensures in
    let e : to_z w128 (of_z w128 c.in_ok-part.part) ≡ c.in_ok-part.part = grind (arith, common_steps) in
    let more = more_is c.args.factors.now.scope.now c.args.factors.now.left.now c.args.factors.now.right.now c.args.state c.next_pair-next.result c.args.slot c.loop-value.value _ _ c.requires.pair c.requires.slot c.requires.within (omega (arith, c.loop-value-test.true, c.state_width-value-end.ensures)) c.requires.light n c.loop-value.invariant.sum (e ∙ c.in_ok-part.ensures.sum) in
    more.fits

pub sum_of_nodes-loop-value-preserved : goal.sum_of_nodes-loop-value-preserved
sum_of_nodes-loop-value-preserved t c =
    let n = next_pair c.args.factors.now.scope.now.sizes c.args.factors.now.left.now c.args.factors.now.right.now c.args.state c.next_pair-next.result c.args.slot c.loop-value.value c.requires.pair c.requires.slot c.requires.within c.next_pair-next.ensures in
    let e : to_z w128 (of_z w128 c.in_ok-part.part) ≡ c.in_ok-part.part = grind (arith, common_steps) in
    let more = more_is c.args.factors.now.scope.now c.args.factors.now.left.now c.args.factors.now.right.now c.args.state c.next_pair-next.result c.args.slot c.loop-value.value _ _ c.requires.pair c.requires.slot c.requires.within (omega (arith, c.loop-value-test.true, c.state_width-value-end.ensures)) c.requires.light n c.loop-value.invariant.sum (e ∙ c.in_ok-part.ensures.sum) in
    record { sum = to_z-of_z w128 _ more.fits ∙ more.sum; known = c.in_ok-part.ensures.known }

pub sum_of_nodes-remember-requires-clause-sum : goal.sum_of_nodes-remember-requires-clause-sum
sum_of_nodes-remember-requires-clause-sum t c =
    all_parts c.args.factors.now.scope.now c.args.factors.now.left.now c.args.factors.now.right.now c.args.state c.args.slot c.loop-value.value _ c.requires.pair c.requires.slot c.requires.within (omega (arith, c.loop-value-test.false, c.loop-value.auto.value-end, c.state_width-value-end.ensures)) c.loop-value.invariant.sum
    ∙ ap (λ i. sum_over (widths_of c.args.factors.now.scope.now) i (pair_value c.args.factors.now.left.now c.args.factors.now.right.now c.args.state)) c.requires.slot

pub sum_of_nodes-returns-clause-sum : goal.sum_of_nodes-returns-clause-sum
sum_of_nodes-returns-clause-sum t c =
    all_parts c.args.factors.now.scope.now c.args.factors.now.left.now c.args.factors.now.right.now c.args.state c.args.slot c.loop-value.value _ c.requires.pair c.requires.slot c.requires.within (omega (arith, c.loop-value-test.false, c.loop-value.auto.value-end, c.state_width-value-end.ensures)) c.loop-value.invariant.sum
