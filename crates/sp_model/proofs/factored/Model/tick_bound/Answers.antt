use Rattle.std.proofs.Common.{◌∙◌, ap}
use Rattle.sp_theory.specs.Points.{count_of}
use Rattle.sp_model.specs.declared.parts.Parts.{Parts}
use Rattle.sp_model.specs.Problem.{sizes_of}
use Rattle.sp_model.proofs.RowLaw.{tick_bound-problem}
use Rattle.sp_model.proofs.factored.Model.tick_bound.Goals as goal

pub returns : goal.returns
returns c =
    tick_bound-problem c.args.self.now _ _ _ c.variable_count.ensures.value c.sight_count.ensures.value
    (c.self.invariant.joints ∙ ap (λ (p : Parts). count_of (sizes_of p.sights)) c.self.view_is)
