use Rattle.std.proofs.Common.{◌≡◌, ◌≤ℤ◌, arith, subst₂, to_z, of_z}
use mir.Syntax.{w128}
use Rattle.std.specs.Bool.{OnFalse}
use Rattle.std.proofs.lemmas.Grind.{common_steps}
use Rattle.sp_ddops.proofs.FirstLemmas.{on_not, leaf_left_known, leaf_right_known, nodes_known}
use Rattle.sp_ddops.proofs.ordering.is_known.Goals as goal

pub returns-in-Leaf-At : goal.returns-in-Leaf-At
returns-in-Leaf-At c =
    let x : to_z w128 (of_z w128 c.in-Leaf-At.value) ≡ c.in-Leaf-At.value = grind (arith, common_steps) in
    let z : to_z w128 (of_z w128 c.in-Some.number) ≡ c.in-Some.number = grind (arith, common_steps) in
    on_not c.is_less.result _ (leaf_left_known c.is_less.result c.args.compared.now.scope.now.sizes c.args.compared.now.left.now c.args.compared.now.right.now c.args.known.now c.args.state.now _ _ _ _ _ c.requires.known c.in-Some.ensures c.key_in-left.ensures c.key_in-right.ensures c.in-Leaf-At.is-0 c.in-Leaf-At.is-1 (subst₂ (λ a b. OnFalse c.is_less.result (a ≤ℤ b)) x z c.is_less.ensures.no))

pub returns-in-At-Leaf : goal.returns-in-At-Leaf
returns-in-At-Leaf c =
    let y : to_z w128 (of_z w128 c.in-At-Leaf.value) ≡ c.in-At-Leaf.value = grind (arith, common_steps) in
    let z : to_z w128 (of_z w128 c.in-Some.number) ≡ c.in-Some.number = grind (arith, common_steps) in
    on_not c.is_less-in-At-Leaf.result _ (leaf_right_known c.is_less-in-At-Leaf.result c.args.compared.now.scope.now.sizes c.args.compared.now.left.now c.args.compared.now.right.now c.args.known.now c.args.state.now _ _ _ _ _ c.requires.known c.in-Some.ensures c.key_in-left.ensures c.key_in-right.ensures c.in-At-Leaf.is-0 c.in-At-Leaf.is-1 (subst₂ (λ a b. OnFalse c.is_less-in-At-Leaf.result (a ≤ℤ b)) z y c.is_less-in-At-Leaf.ensures.no))

pub returns-in-At-At : goal.returns-in-At-At
returns-in-At-At c =
    nodes_known c.args.compared.now.scope.now.sizes c.args.compared.now.left.now c.args.compared.now.right.now c.args.known.now c.args.state.now _ _ _ _ _ c.requires.known c.in-Some.ensures c.key_in-left.ensures c.key_in-right.ensures c.in-At-At.is-0 c.in-At-At.is-1
