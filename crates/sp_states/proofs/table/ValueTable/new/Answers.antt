use Rattle.std.proofs.Common.{◌∙◌, ◌≤◌, ◌^◌, ◌++◌, unsigned_abs, arith, sym, ap, ap₂, subst, All}
use Rattle.sp_dd.specs.Func.{state_count}
use Rattle.sp_states.proofs.Roots.{root_is, all_values, tabulated_is, table_is}
use Rattle.sp_states.proofs.DotLemmas.{state_within}
use Rattle.sp_states.proofs.table.ValueTable.new.Goals as goal

pub list_values-requires-clause-part : goal.list_values-requires-clause-part
list_values-requires-clause-part c = (root_is _ _ _ _ _ c.scope-scope.ensures.value c.scope-scope.ensures.known c.nodes.ensures c.root.ensures c.in-Some.ensures.0).part

pub list_values-requires-clause-small : goal.list_values-requires-clause-small
list_values-requires-clause-small c =
    let r = root_is _ _ _ _ _ c.scope-scope.ensures.value c.scope-scope.ensures.known c.nodes.ensures c.root.ensures c.in-Some.ensures.0 in
    subst (All (λ z. unsigned_abs z ≤ 2 ^ 62)) (sym r.values) (all_values (λ z. unsigned_abs z ≤ 2 ^ 62) c.args.f.now (λ k l. c.requires.small _ (state_within c.args.f.now.shape k c.scope-scope.ensures.known)))

pub invariant_of-result : goal.invariant_of-result
invariant_of-result c =
    let r = root_is _ _ _ _ _ c.scope-scope.ensures.value c.scope-scope.ensures.known c.nodes.ensures c.root.ensures c.in-Some.ensures.0 in
    table_is _ _ c.args.f.now c.scope-scope.ensures.value (c.in_ok-list_values.ensures ∙ ap₂ (λ xs ys. xs ++ ys) c.in_ok-values.ensures.items r.values) c.scope-scope.ensures.known

pub returns : goal.returns
returns c =
    let r = root_is _ _ _ _ _ c.scope-scope.ensures.value c.scope-scope.ensures.known c.nodes.ensures c.root.ensures c.in-Some.ensures.0 in
    let few : state_count c.args.f.now.shape ≤ 65536 = omega (arith, c.in-Some.ensures.0, c.in-Some.ensures.1, ap state_count c.scope-scope.ensures.value) in
    (tabulated_is _ _ c.args.f.now c.scope-scope.ensures.value (c.in_ok-list_values.ensures ∙ ap₂ (λ xs ys. xs ++ ys) c.in_ok-values.ensures.items r.values) c.scope-scope.ensures.known c.scope-scope.ensures.determined c.requires.unprimed, few)
