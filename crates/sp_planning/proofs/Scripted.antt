-- The plan file of a finished book with the logs of a script.
use Rattle.std.proofs.Common.{◌≡◌, ◌∙◌, sym, ap, subst, refl, ℕ, List, [], ◌∷◌, length, Bool, false, cond}
use Rattle.std.specs.Prelude.{replicate}
use Rattle.std.proofs.lemmas.List.{get_or-replicate}
use Rattle.sp_theory.specs.Points.{count_of}
use Rattle.sp_theory.specs.Book as theory
use Rattle.sp_theory.specs.Runs.{replay}
use Rattle.sp_theory.specs.Logs.{Log}
use Rattle.sp_model.specs.declared.parts.Parts.{Parts}
use Rattle.sp_model.specs.Problem.{sizes_of}
use Rattle.sp_value.specs.declared.events.Event.{Event}
use Rattle.sp_value.specs.declared.tasks.Options.{Options}
use Rattle.sp_value.specs.Tasks.{TaskParts, task_of}
use Rattle.sp_choose.specs.Machines.{Machine}
use Rattle.sp_core.specs.Books.{BookParts}
use Rattle.sp_core.specs.Marks.{marks_of}
use Rattle.sp_core.specs.Opening.{first_parts}
use Rattle.sp_session.specs.declared.logs.SessionLog.{SessionLog}
use Rattle.sp_session.specs.Logs.{logs_of}
use Rattle.sp_script.specs.declared.command.Command.{Command}
use Rattle.sp_serving.specs.Replies.{newest_of, logs_after, transcript_of}
use Rattle.sp_attending.specs.Runs.{shown_at, IsServedPlan}
use Rattle.sp_planner.specs.Planned.{IsTaskFor, IsPlanned, picking_words}
use Rattle.sp_planner.specs.Turns.{IsRun}
use Rattle.sp_planner.specs.Pauses.{pauses}
use Rattle.sp_planner.proofs.Pausing.{pauses_same}
use Rattle.sp_planner.proofs.Finished.{opened_planned}
use Rattle.sp_planfile.specs.PlanText.{plan_text}
use Rattle.sp_planfile.specs.Form.{IsInForm}
use Rattle.sp_planning.specs.ScriptFiles.{scripted_contents, IsScriptFileFor}
use Rattle.sp_planning.specs.Laws.{EmptyScriptsChangeNothing}
use Rattle.sp_planning.specs.BookFiles.{IsBookFile}

-- where one thread planned the book while it served the script
pub script_file_is : (p : Parts) (o : Options) (chooser : Machine) (cs : List Command) (b : BookParts) (transcript : List SessionLog) (text : List ℕ)
    → IsPlanned p o chooser b.task b.history → IsServedPlan (task_of b.task) o.prune [] (λ k. false) (picking_words o) b.history cs (logs_of transcript)
    → IsBookFile b transcript text → IsScriptFileFor p o chooser cs text
script_file_is p o chooser cs b transcript text planned sessions f = record {
  task = b.task;
  events = f.events;
  transcript = transcript;
  planned = subst (λ (es : List theory.Event). IsPlanned p o chooser b.task es) (sym f.history) planned;
  sessions = subst (λ (es : List theory.Event). IsServedPlan (task_of b.task) o.prune [] (λ k. false) (picking_words o) es cs (logs_of transcript)) (sym f.history) sessions;
  form = subst (λ (m : Parts). IsInForm (length m.actions) (count_of (sizes_of m.sights)) (scripted_contents m b.task f.events transcript)) planned.task.model f.form;
  is = f.is ∙ (λ h. plan_text (scripted_contents (planned.task.model h) b.task f.events transcript));
}

-- ---- from the opening book on
module _ (t : TaskParts) (pruning : Bool) (words : List ℕ) where
  opening_pauses : pauses (task_of t) pruning [] (marks_of (replicate t.options.beliefs false)) words ≡ pauses (task_of t) pruning [] (λ k. false) words
  opening_pauses =
      ap (λ (ps : List (List theory.Event)). cond (replay (task_of t) (theory.opening (task_of t)) []).done [] ([] ∷ ps))
      (pauses_same (task_of t) pruning [] (marks_of (replicate t.options.beliefs false)) (λ k. false) (λ k less. get_or-replicate t.options.beliefs k false false less) words)

  served_from_opening : (final : List theory.Event) (cs : List Command) (logs : List Log) → IsServedPlan (task_of t) pruning [] (marks_of (replicate t.options.beliefs false)) words final cs logs
      → IsServedPlan (task_of t) pruning [] (λ k. false) words final cs logs
  served_from_opening final cs logs served = record {
    is = served.is
        ∙ ap (λ (ps : List (List theory.Event)). transcript_of (task_of t).model (shown_at (task_of t) ps) (newest_of (replay (task_of t) (theory.opening (task_of t)) final)) cs) opening_pauses;
    legal = served.legal;
    served = served.served;
    different = served.different;
  }

module _ (p : Parts) (o : Options) (chooser : Machine) (b d : BookParts) (is : IsTaskFor p o chooser b.task) (first : b ≡ first_parts b.task) (run : IsRun o.prune b (picking_words b.task.options) d) where
  pub opened_plans : IsPlanned p o chooser d.task d.history
  opened_plans = opened_planned p o chooser b d is first (subst (λ (x : Options). IsRun o.prune b (picking_words x) d) is.options run)

  pub opened_serves : (cs : List Command) (logs : List Log) → IsServedPlan (task_of b.task) o.prune b.history (marks_of b.taken) (picking_words b.task.options) d.history cs logs
      → IsServedPlan (task_of d.task) o.prune [] (λ k. false) (picking_words o) d.history cs logs
  opened_serves cs logs served =
      subst (λ (u : TaskParts). IsServedPlan (task_of u) o.prune [] (λ k. false) (picking_words o) d.history cs logs) (sym run.task)
      (served_from_opening b.task o.prune (picking_words o) d.history cs logs
      (subst (λ (x : BookParts). IsServedPlan (task_of b.task) o.prune x.history (marks_of x.taken) (picking_words o) d.history cs logs) first
      (subst (λ (x : Options). IsServedPlan (task_of b.task) o.prune b.history (marks_of b.taken) (picking_words x) d.history cs logs) is.options served)))

-- ---- without commands
none_told : (transcript : List SessionLog) → logs_of transcript ≡ [] → transcript ≡ []
none_told [] none = refl
none_told (log ∷ transcript) none = absurd (cc)

pub empty_scripts_change_nothing : EmptyScriptsChangeNothing
unfolding logs_after
empty_scripts_change_nothing p o chooser text f =
    let none : f.transcript ≡ [] = none_told f.transcript f.sessions.is in
    record {
      task = f.task;
      events = f.events;
      planned = f.planned;
      form = subst (λ (xs : List SessionLog). IsInForm (length p.actions) (count_of (sizes_of p.sights)) (scripted_contents p f.task f.events xs)) none f.form;
      is = f.is ∙ ap (λ (xs : List SessionLog). plan_text (scripted_contents p f.task f.events xs)) none;
    }
