use Rattle.std.proofs.Common.{◌≡◌, ◌∙◌, subst, rules, List, length, Some}
use Rattle.std.specs.Prelude.{ℤ}
use Rattle.std.specs.Arc.{arc_value}
use Rattle.sp_model.specs.Weights.{AreWeights}
use Rattle.sp_model.specs.Problem.{shape_of}
use Rattle.sp_value.specs.Events.{events_of}
use Rattle.sp_value.specs.Tasks.{TaskParts, sampled_func}
use Rattle.sp_lines.specs.Lines.{IsSmall}
use Rattle.sp_planfile.specs.ModelText.{model_bytes}
use Rattle.sp_planfile.specs.Contents.{contents_of}
use Rattle.sp_planfile.specs.PlanText.{plan_text}
use Rattle.sp_audit.specs.Verdicts.{values_after}
use Rattle.sp_judging.proofs.Migrated.{migrated_form}
use Rattle.sp_judging.proofs.texts.migrated_text.Goals as goal

pub returns-clause-text : goal.returns-clause-text
returns-clause-text c =
    let f = c.in-Ok.plan.filed in
    let t : TaskParts = arc_value f.run.task in
    let same : c.values-values.result.now ≡ values_after t (events_of f.run.events) = c.values-values.ensures ∙ c.in-Ok.ensures.replay.values in
    let small : IsSmall (length c.values-values.result.now) = search rules in
    let weights : AreWeights (sampled_func t 0) = search rules in
    let shape : (sampled_func t 0).shape ≡ shape_of t.model = search rules in
    record {
      plan = record { task = t; events = f.run.events; values = f.values; transcript = f.transcript; legal = c.in-Ok.ensures.legal };
      is = c.in_ok-text.ensures ∙ (λ h. plan_text (contents_of (model_bytes t.model) t f.run.events (Some (same h)) f.transcript));
      form = migrated_form c.args.source.now t f.run.events f.values f.transcript c.in-Ok.ensures.legal (subst (λ (xs : List ℤ). IsSmall (length xs)) same small) weights shape;
    }
