use Rattle.std.proofs.Common.{◌≡◌, ◌∙◌, arith, to_z, of_z}
use mir.Syntax.{w128}
use Rattle.std.proofs.lemmas.Grind.{common_steps}
use Rattle.sp_ddops.proofs.FirstLemmas.{nowhere_push}
use Rattle.sp_ddops.proofs.ordering.remember.Goals as goal

pub returns : goal.returns
returns c =
    let e : to_z w128 (of_z w128 c.leaf_of_pair.result) ≡ c.leaf_of_pair.result = grind (arith, common_steps) in
    nowhere_push c.args.compared.now.scope.now.sizes c.args.compared.now.left.now c.args.compared.now.right.now _ _ c.args.state.now _ _ _ c.requires.known c.requires.open c.requires.below c.key_in-left.ensures c.key_in-right.ensures (e ∙ c.leaf_of_pair.ensures) c.in_ok-keep.ensures
