use Rattle.std.proofs.Common.{◌≡◌, ◌∙◌, ◌+ℤ◌, ◌*ℤ◌, ◌+◌, drop, pos, get_or, arith, sym, ap, subst, to_z, of_z, FitsSigned}
use mir.Syntax.{w64, w128}
use Rattle.std.proofs.lemmas.Grind.{common_steps}
use Rattle.std.proofs.lemmas.Int.{to_z-of_z, fits_signed_from_abs}
use Rattle.std.proofs.lemmas.List.{get_or_read}
use Rattle.sp_states.specs.States.{entry_dot}
use Rattle.sp_states.proofs.DotLemmas.{paired, is_step, sum_end}
use Rattle.sp_states.proofs.sums.dot.Goals as goal

pub weighed-sum-requires : goal.weighed-sum-requires
weighed-sum-requires c =
    let p = paired _ _ _ _ _ _ c.w.view_is c.f.view_is c.requires.scopes c.w.invariant c.f.invariant c.requires.total c.requires.small in
    (is_step _ _ _ _ _ _ p.small (omega (arith, c.loop-k-test.true, c.len-k-end.ensures)) c.loop-k.invariant c.index-entry.ensures).weight

pub overflow_add-sum : goal.overflow_add-sum
overflow_add-sum c =
    let p = paired _ _ _ _ _ _ c.w.view_is c.f.view_is c.requires.scopes c.w.invariant c.f.invariant c.requires.total c.requires.small in
    let h = is_step _ _ _ _ _ _ p.small (omega (arith, c.loop-k-test.true, c.len-k-end.ensures)) c.loop-k.invariant c.index-entry.ensures in
    let y : to_z w128 (of_z w128 c.weighed-sum.result) ≡ c.weighed-sum.result = grind (arith, common_steps) in
    let v : to_z w64 (of_z w64 c.index-value.result.now) ≡ c.index-value.result.now = grind (arith, common_steps) in
    let read = get_or_read c.f.inside.values.items _ _ h.state c.index-value.ensures (pos 0) in
    let is : to_z w128 (of_z w128 c.weighed-sum.result) ≡ pos c.index-entry.result.now.weight *ℤ get_or c.f.inside.values.items c.index-entry.result.now.state (pos 0) = y ∙ c.weighed-sum.ensures ∙ ap (λ x. pos c.index-entry.result.now.weight *ℤ x) (v ∙ read) in
    subst (λ x. FitsSigned w128 (to_z w128 c.loop-k.sum-bits +ℤ x)) (sym is) (fits_signed_from_abs w128 _ (omega (arith, h.size)))

pub loop-k-preserved : goal.loop-k-preserved
loop-k-preserved c =
    let p = paired _ _ _ _ _ _ c.w.view_is c.f.view_is c.requires.scopes c.w.invariant c.f.invariant c.requires.total c.requires.small in
    let h = is_step _ _ _ _ _ _ p.small (omega (arith, c.loop-k-test.true, c.len-k-end.ensures)) c.loop-k.invariant c.index-entry.ensures in
    let y : to_z w128 (of_z w128 c.weighed-sum.result) ≡ c.weighed-sum.result = grind (arith, common_steps) in
    let v : to_z w64 (of_z w64 c.index-value.result.now) ≡ c.index-value.result.now = grind (arith, common_steps) in
    let read = get_or_read c.f.inside.values.items _ _ h.state c.index-value.ensures (pos 0) in
    let is : to_z w128 (of_z w128 c.weighed-sum.result) ≡ pos c.index-entry.result.now.weight *ℤ get_or c.f.inside.values.items c.index-entry.result.now.state (pos 0) = y ∙ c.weighed-sum.ensures ∙ ap (λ x. pos c.index-entry.result.now.weight *ℤ x) (v ∙ read) in
    let es = c.w.inside.entries.items in
    let vs = c.f.inside.values.items in
    ap (λ x. x +ℤ entry_dot (drop (c.loop-k.k + 1) es) (λ n. get_or vs n (pos 0))) (to_z-of_z w128 _ (overflow_add-sum c) ∙ ap (λ x. to_z w128 c.loop-k.sum-bits +ℤ x) is) ∙ h.next

pub returns : goal.returns
returns c =
    let p = paired _ _ _ _ _ _ c.w.view_is c.f.view_is c.requires.scopes c.w.invariant c.f.invariant c.requires.total c.requires.small in
    sum_end c.w.inside.entries.items (λ n. get_or c.f.inside.values.items n (pos 0)) c.loop-k.k (to_z w128 c.loop-k.sum-bits) (omega (arith, c.loop-k-test.false, c.loop-k.auto.k-end, c.len-k-end.ensures)) c.loop-k.invariant ∙ p.sum
