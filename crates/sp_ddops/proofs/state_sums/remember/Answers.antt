use Rattle.std.proofs.Common.{◌≡◌, ◌∙◌, arith, to_z, of_z}
use mir.Syntax.{w128}
use Rattle.std.proofs.lemmas.Grind.{common_steps}
use Rattle.sp_ddops.proofs.FactorLemmas.{numbers_push}
use Rattle.sp_ddops.proofs.state_sums.remember.Goals as goal

pub returns : goal.returns
returns c =
    let e : to_z w128 (of_z w128 c.args.sum) ≡ c.args.sum = grind (arith, common_steps) in
    numbers_push c.args.factors.now.scope.now c.args.factors.now.left.now c.args.factors.now.right.now _ _ c.args.state.now _ _ _ c.requires.known c.requires.unit c.key_in-left.ensures c.key_in-right.ensures (e ∙ c.requires.sum) c.in_ok-keep.ensures
