-- The plan file of a finished book.
use Rattle.std.proofs.Common.{◌≡◌, ◌∙◌, sym, subst, arith, ◌<◌, ℕ, List, [], length, map, true, Some}
use Rattle.std.specs.Prelude.{ℤ}
use Rattle.std.proofs.lemmas.Int.{ints}
use Rattle.sp_dd.specs.Func.{Func}
use Rattle.sp_theory.specs.Points.{count_of}
use Rattle.sp_theory.specs.Scaling.{total_weight}
use Rattle.sp_theory.specs.Book as theory
use Rattle.sp_theory.specs.Runs.{replay}
use Rattle.sp_model.specs.declared.parts.Parts.{Parts}
use Rattle.sp_model.specs.Problem.{problem, shape_of, sizes_of}
use Rattle.sp_model.specs.Kept.{IsModel}
use Rattle.sp_model.specs.Weights.{AreWeights}
use Rattle.sp_model.specs.Links.{weights_of}
use Rattle.sp_model.specs.ModelLaws.{ReturnsAreBounded}
use Rattle.sp_belief.proofs.WeightLemmas.{has-total, weights_has}
use Rattle.sp_value.specs.declared.events.Event.{Event}
use Rattle.sp_value.specs.declared.tasks.Options.{Options}
use Rattle.sp_value.specs.Events.{events_of}
use Rattle.sp_value.specs.Tasks.{TaskParts, task_of, sampled_func}
use Rattle.sp_choose.specs.Machines.{Machine}
use Rattle.sp_core.specs.Books.{BookParts, IsBook, state_of}
use Rattle.sp_session.specs.declared.logs.SessionLog.{SessionLog}
use Rattle.sp_session.specs.Logs.{logs_of}
use Rattle.sp_lines.specs.Lines.{IsSmall}
use Rattle.sp_planner.specs.Planned.{IsPlanned, IsTrusted}
use Rattle.sp_planner.specs.Numbers.{value_at_first, values_at_first}
use Rattle.sp_planner.proofs.Finished.{finished_trusted}
use Rattle.sp_planfile.specs.RunText.{FitInWords}
use Rattle.sp_planfile.specs.ModelText.{model_bytes}
use Rattle.sp_planfile.specs.Contents.{contents_of}
use Rattle.sp_planfile.specs.PlanText.{plan_text}
use Rattle.sp_planfile.specs.Form.{IsInForm}
use Rattle.sp_planning.specs.PlanFiles.{IsPlanFileFor, planned_contents, values_after}
use Rattle.sp_planning.specs.ScriptFiles.{AreSmallLogs}
use Rattle.sp_planning.specs.BookFiles.{AreFileLogs, IsBookFile}
use Rattle.sp_planning.proofs.Form.{in_form}
use Rattle.sp_planning.proofs.ScriptForm.{with_logs}

pub total_some : (p : Parts) → IsModel p → (w : Func) → AreWeights w → w.shape ≡ shape_of p → 0 < total_weight (problem p) (weights_of p w)
total_some p known w are shape =
    let above = are.above in
    let same = has-total p known w (weights_of p w) (weights_has p known w (shape ∙ sym known.scope) are) in
    omega (arith, ints, above, same)

pub book_file_is : (b : BookParts) (t : TaskParts) (events : List Event) (values : List ℤ) (transcript : List SessionLog) (text : List ℕ)
    → IsBook b → (state_of b).done ≡ true → AreFileLogs b.task.model (logs_of transcript) → t ≡ b.task → events_of events ≡ b.history → values ≡ values_at_first b
    → IsSmall t.options.seed → FitInWords (events_of events) → IsSmall (length values) → AreSmallLogs transcript → IsSmall (length transcript) → ReturnsAreBounded
    → AreWeights (sampled_func t 0) → (sampled_func t 0).shape ≡ shape_of t.model
    → text ≡ plan_text (contents_of (model_bytes t.model) t events (Some values) transcript) → IsBookFile b transcript text
book_file_is b t events values transcript text is done logs task history numbers seed small count small_logs log_count bounded weights shape text_is =
    let trusted : IsTrusted (task_of b.task) (events_of events) = subst (IsTrusted (task_of b.task)) (sym history) (finished_trusted b is done) in
    let same : values ≡ values_after b.task events =
    numbers ∙ (λ h. map (value_at_first b.task) (theory.editions (replay (task_of b.task) (theory.opening (task_of b.task)) (sym history h)))) in
    let some : 0 < total_weight (problem b.task.model) (weights_of b.task.model (sampled_func b.task 0)) =
    total_some b.task.model is.task.model (sampled_func b.task 0) (subst (λ (u : TaskParts). AreWeights (sampled_func u 0)) task weights) (subst (λ (u : TaskParts). (sampled_func u 0).shape ≡ shape_of u.model) task shape) in
    record {
      events = events;
      history = history;
      form = with_logs b.task.model b.task events transcript
          (in_form b.task events is.task trusted (subst (λ (u : TaskParts). IsSmall u.options.seed) task seed) small (subst (λ (xs : List ℤ). IsSmall (length xs)) same count) bounded some)
          small_logs log_count logs;
      is = text_is ∙ (λ h. plan_text (contents_of (model_bytes (task h).model) (task h) events (Some (same h)) transcript));
    }

-- where one thread planned the book
pub plan_file_is : (p : Parts) (o : Options) (chooser : Machine) (b : BookParts) (text : List ℕ) → IsPlanned p o chooser b.task b.history → IsBookFile b [] text → IsPlanFileFor p o chooser text
plan_file_is p o chooser b text planned f = record {
  task = b.task;
  events = f.events;
  planned = subst (λ (es : List theory.Event). IsPlanned p o chooser b.task es) (sym f.history) planned;
  form = subst (λ (m : Parts). IsInForm (length m.actions) (count_of (sizes_of m.sights)) (planned_contents m b.task f.events)) planned.task.model f.form;
  is = f.is ∙ (λ h. plan_text (planned_contents (planned.task.model h) b.task f.events));
}
