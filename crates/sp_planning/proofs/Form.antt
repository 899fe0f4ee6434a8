-- What is planned is in form.
use Rattle.std.proofs.Common.{◌∙◌, arith, ◌<◌, List, length, Some}
use Rattle.std.proofs.lemmas.List.{length-map}
use Rattle.sp_theory.specs.Points.{count_of}
use Rattle.sp_theory.specs.Model.{IsLawful}
use Rattle.sp_theory.specs.Scaling.{total_weight}
use Rattle.sp_theory.specs.Book.{opening, editions}
use Rattle.sp_theory.specs.Runs.{replay}
use Rattle.sp_model.specs.Problem.{problem, sizes_of}
use Rattle.sp_model.specs.Kept.{IsModel}
use Rattle.sp_model.proofs.RowLaw.{problem_lawful}
use Rattle.sp_model.specs.ModelLaws.{ReturnsAreBounded}
use Rattle.sp_value.specs.declared.events.Event.{Event}
use Rattle.sp_value.specs.Events.{events_of}
use Rattle.sp_value.specs.Tasks.{TaskParts, IsTask, task_of, weights_at}
use Rattle.sp_lines.specs.Lines.{IsSmall}
use Rattle.sp_planner.specs.Planned.{IsTrusted}
use Rattle.sp_planner.specs.Numbers.{value_at_first}
use Rattle.sp_planfile.specs.RunText.{FitInWords}
use Rattle.sp_planfile.specs.Form.{IsInForm, AreInRange, AreValuesOfEditions}
use Rattle.sp_planning.specs.PlanFiles.{values_after, planned_contents}
use Rattle.sp_planning.proofs.ModelLines.{model_lines}
use Rattle.sp_planning.proofs.Ranges.{values_within}
use Rattle.sp_planning.proofs.Parts.{moves_in_form, moves_count, events_in_form, edition_total}

options_in_range : (t : TaskParts) → IsTask t → IsSmall t.options.seed → AreInRange t.options
options_in_range t is seed = record { some_beliefs = is.some_beliefs; few_beliefs = is.few_beliefs; some_depth = is.some_depth; few_depth = is.few_depth; some_stages = is.some_stages; few_stages = is.few_stages; seed = seed }

module _ (t : TaskParts) (events : List Event) (is : IsTask t) (trusted : IsTrusted (task_of t) (events_of events)) (seed : IsSmall t.options.seed)
    (small : FitInWords (events_of events)) (count : IsSmall (length (values_after t events))) (bounded : ReturnsAreBounded) (some : 0 < total_weight (problem t.model) (weights_at t 0)) where
  known : IsModel t.model
  known = is.model

  lawful : IsLawful (problem t.model)
  lawful = problem_lawful t.model known

  values_are : AreValuesOfEditions (events_of events) (Some (values_after t events))
  unfolding opening
  values_are =
      let range = bounded t.model known in
      let all = values_within (problem t.model) (weights_at t 0) (editions (replay (task_of t) (opening (task_of t)) (events_of events))) some range.0 range.1 range.2 trusted.sound.ranged in
      let long = length-map (editions (replay (task_of t) (opening (task_of t)) (events_of events))) (value_at_first t) in
      let total = edition_total (task_of t) (opening (task_of t)) (events_of events) in
      (omega (arith, long, total), count, all)

  pub in_form : IsInForm (length t.model.actions) (count_of (sizes_of t.model.sights)) (planned_contents t.model t events)
  unfolding problem
  in_form = record {
    few_actions = let few = known.few_actions in omega (arith, few);
    few_joint = let few = known.few_joint in omega (arith, few);
    model = model_lines t.model known;
    options = options_in_range t is seed;
    move_count = moves_count t.samples.list (let n = is.count in let s = is.some_beliefs in omega (arith, n, s)) ∙ is.count;
    moves = moves_in_form t.model t.samples.depth t.samples.list is.sampled;
    event_count = small.0;
    events = events_in_form (task_of t) lawful (opening (task_of t)) (events_of events) trusted.legal.0 small.1;
    values = values_are;
    log_count = omega arith;
    logs = tt;
    names = λ i j d less h. absurd (omega (arith, less, h));
  }
