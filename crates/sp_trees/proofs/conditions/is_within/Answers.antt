use Rattle.std.proofs.Common.{◌∙◌, rules}
use Rattle.std.specs.Prelude.{FitsSigned}
use Rattle.std.specs.Int.{w128}
use Rattle.std.proofs.lemmas.Int.{to_z-of_z}
use Rattle.sp_trees.proofs.ConditionLemmas.{between_as}
use Rattle.sp_trees.proofs.conditions.is_within.Goals as goal

pub returns-clause-value : goal.returns-clause-value
returns-clause-value c =
    let fits_low : FitsSigned w128 c.signed.result = search rules in
    let fits_high : FitsSigned w128 c.signed-2.result = search rules in
    between_as c.lies_between.result _ _ _ _ c.args.f.now (to_z-of_z w128 _ fits_low ∙ c.signed.ensures) (to_z-of_z w128 _ fits_high ∙ c.signed-2.ensures)
    c.scope.ensures.known c.lies_between.ensures.yes c.lies_between.ensures.no
