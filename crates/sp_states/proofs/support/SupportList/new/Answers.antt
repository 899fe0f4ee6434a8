use Rattle.std.proofs.Common.{◌∙◌, ◌≤◌, ◌++◌, inr, length, arith, ap, ap₂, sym, subst, All}
use Rattle.sp_dd.specs.Func.{state_count}
use Rattle.sp_states.specs.States.{entries_from}
use Rattle.sp_states.specs.Walks.{IsWeight}
use Rattle.sp_states.proofs.Roots.{root_is, are_weights, weighted_is, entries_are, count_is}
use Rattle.sp_states.proofs.Blocks.{appended_yes, appended_no}
use Rattle.sp_states.proofs.support.SupportList.new.Goals as goal

pub list_support-requires-clause-part : goal.list_support-requires-clause-part
list_support-requires-clause-part c = (root_is _ _ _ _ _ c.scope-scope.ensures.value c.scope-scope.ensures.known c.nodes.ensures c.root.ensures c.in-Some.ensures.0).part

pub list_support-requires-clause-weights : goal.list_support-requires-clause-weights
list_support-requires-clause-weights c =
    let r = root_is _ _ _ _ _ c.scope-scope.ensures.value c.scope-scope.ensures.known c.nodes.ensures c.root.ensures c.in-Some.ensures.0 in
    subst (All IsWeight) (sym r.values) (are_weights c.args.w.now c.scope-scope.ensures.known c.requires.not_negative c.requires.total)

pub returns-then-not-whole : goal.returns-then-not-whole
returns-then-not-whole c =
    let r = root_is _ _ _ _ _ c.scope-scope.ensures.value c.scope-scope.ensures.known c.nodes.ensures c.root.ensures c.in-Some.ensures.0 in
    let no = appended_no _ c.args.room _ _ c.if-not-whole.true c.in_ok-whole.ensures in
    let all = ap₂ (λ xs vs. length (xs ++ entries_from 0 vs)) c.new-entries.ensures.items r.values ∙ count_is c.args.w.now in
    inr (omega (arith, no, all))

pub invariant_of-result : goal.invariant_of-result
invariant_of-result c =
    let r = root_is _ _ _ _ _ c.scope-scope.ensures.value c.scope-scope.ensures.known c.nodes.ensures c.root.ensures c.in-Some.ensures.0 in
    let yes = appended_yes _ c.args.room _ _ c.if-not-whole.false c.in_ok-whole.ensures in
    entries_are _ _ c.args.w.now c.scope-scope.ensures.value (yes.0 ∙ ap₂ (λ xs vs. xs ++ entries_from 0 vs) c.new-entries.ensures.items r.values) c.scope-scope.ensures.known

pub returns : goal.returns
returns c =
    let r = root_is _ _ _ _ _ c.scope-scope.ensures.value c.scope-scope.ensures.known c.nodes.ensures c.root.ensures c.in-Some.ensures.0 in
    let yes = appended_yes _ c.args.room _ _ c.if-not-whole.false c.in_ok-whole.ensures in
    let all = ap₂ (λ xs vs. length (xs ++ entries_from 0 vs)) c.new-entries.ensures.items r.values ∙ count_is c.args.w.now in
    let few : state_count c.args.w.now.shape ≤ 65536 = omega (arith, c.in-Some.ensures.0, c.in-Some.ensures.1, ap state_count c.scope-scope.ensures.value) in
    (weighted_is _ _ c.args.w.now c.scope-scope.ensures.value (yes.0 ∙ ap₂ (λ xs vs. xs ++ entries_from 0 vs) c.new-entries.ensures.items r.values) c.scope-scope.ensures.known c.scope-scope.ensures.determined c.requires.unprimed c.requires.not_negative, few, omega (arith, yes.1, all))
