use Rattle.std.proofs.Common.{◌∙◌, pos, rules, FitsSigned}
use Rattle.std.specs.Prelude.{neg_ℤ}
use Rattle.std.specs.Int.{w128}
use Rattle.std.proofs.lemmas.Int.{to_z-of_z}
use Rattle.sp_dd.specs.Floors.{ticks}
use Rattle.sp_model.specs.Kept.{most_reward}
use Rattle.sp_rows.proofs.LeafLemmas.{within_is}
use Rattle.sp_rows.proofs.tables.is_probability.Goals as goal

pub returns : goal.returns
returns c =
    let f : FitsSigned w128 c.least.result = search rules in
    let g : FitsSigned w128 c.greatest.result = search rules in
    (simp to_z-of_z at c.is_between.ensures) ∙ within_is c.args.f.now (pos 0) (pos ticks) c.least.result c.greatest.result c.scope.ensures.known c.least.ensures c.greatest.ensures
