-- Legal files are neither illegal nor at fault, and what is migrated is legal.
use Rattle.std.proofs.Common.{◌≡◌, ◌∙◌, sym, ap, refl, subst, ℕ, List, length, get_or, Option, Some, None}
use Rattle.std.specs.Prelude.{ℤ, pos}
use Rattle.std.proofs.lemmas.List.{length-map}
use Rattle.sp_theory.specs.Points.{count_of}
use Rattle.sp_theory.specs.Book.{opening, editions}
use Rattle.sp_theory.specs.Runs.{replay}
use Rattle.sp_theory.specs.Laws.{IsSound}
use Rattle.sp_model.specs.Problem.{problem, sizes_of, shape_of}
use Rattle.sp_model.specs.Kept.{IsModel}
use Rattle.sp_model.specs.Weights.{AreWeights}
use Rattle.sp_model.proofs.Bounds.{least_return_from, least_return_to, top_to}
use Rattle.sp_value.specs.declared.events.Event.{Event}
use Rattle.sp_value.specs.Events.{events_of}
use Rattle.sp_value.specs.Tasks.{TaskParts, task_of, weights_at, sampled_func}
use Rattle.sp_session.specs.declared.logs.SessionLog.{SessionLog}
use Rattle.sp_session.specs.Logs.{logs_of}
use Rattle.sp_lines.specs.Lines.{IsSmall}
use Rattle.sp_planfile.specs.ModelText.{model_bytes}
use Rattle.sp_planfile.specs.Contents.{contents_of}
use Rattle.sp_planfile.specs.PlanText.{plan_text}
use Rattle.sp_planfile.specs.Form.{IsInForm, AreValuesOfEditions}
use Rattle.sp_planning.proofs.Ranges.{values_within}
use Rattle.sp_planning.proofs.Finished.{total_some}
use Rattle.sp_filed.proofs.FaultLaws.{plan_files_are_not_at_fault}
use Rattle.sp_audit.specs.Clauses.{clause_of}
use Rattle.sp_audit.specs.Verdicts.{AreLegal, values_after}
use Rattle.sp_audit.proofs.VerdictLaws.{wrong_is_not_legal, legal_runs_keep_their_word}
use Rattle.sp_judging.specs.PlanFiles.{AreTrueValues, IsLegalFile, IsLegalPlan, IsNote, of_event, of_entry, of_value, IsIllegalPlan, migrated_contents}
use Rattle.sp_judging.specs.Laws.{LegalFilesAreNotRefused, LegalFilesAreSound, MigratedFilesAreLegal, FilesWithValuesStay}
use Rattle.sp_judging.proofs.SameFiles.{same_values, legal_again, values_again}
use Rattle.sp_judging.proofs.FormLemmas.{edition_number}

-- ---- one of three
module _ (source : List ℕ) (p : IsLegalPlan source) (note : List ℕ) (i : IsIllegalPlan source note) where
  legal_there : AreLegal (task_of i.task) (events_of i.events) (logs_of i.transcript)
  legal_there = legal_again source i.task p.task i.events p.events i.values p.values i.transcript p.transcript i.file p.legal.file p.legal.legal

  true_there : (all : List ℤ) → i.values ≡ Some all → all ≡ values_after i.task (events_of i.events)
  true_there all is =
      let same : p.values ≡ Some all = same_values source i.task p.task i.events p.events i.values p.values i.transcript p.transcript i.file p.legal.file ∙ is in
      subst (λ (o : Option (List ℤ)). AreTrueValues p.task p.events o) same p.legal.true_values
      ∙ values_again source i.task p.task i.events p.events i.values p.values i.transcript p.transcript i.file p.legal.file p.legal.legal

  no_note : IsNote i.task i.events i.values i.transcript note → ⊥
  no_note (of_event number clause wrong is) = wrong_is_not_legal (task_of i.task) (events_of i.events) (logs_of i.transcript) None number (clause_of clause) wrong legal_there
  no_note (of_entry place number clause log wrong at is) = wrong_is_not_legal (task_of i.task) (events_of i.events) (logs_of i.transcript) (Some place) number (clause_of clause) wrong legal_there
  no_note (of_value number all legal values (k, n, within, before, differs) is) = differs (ap (λ (xs : List ℤ). get_or xs k (pos 0)) (true_there all values))

pub legal_files_are_not_refused : LegalFilesAreNotRefused
legal_files_are_not_refused source = record {
  legal_or_not = λ p note i. no_note source p note i i.is;
  legal_or_fault = λ p at kind. plan_files_are_not_at_fault source p.task p.events p.values p.transcript at kind p.legal.file;
  illegal_or_fault = λ note i at kind. plan_files_are_not_at_fault source i.task i.events i.values i.transcript at kind i.file;
}

pub legal_files_are_sound : LegalFilesAreSound
legal_files_are_sound source p = legal_runs_keep_their_word p.task p.legal.file.task (events_of p.events) (logs_of p.transcript) p.legal.legal

-- ---- migrated files
module _ (source : List ℕ) (t : TaskParts) (events : List Event) (values : Option (List ℤ)) (transcript : List SessionLog) (legal : IsLegalFile source t events values transcript)
    (count : IsSmall (length (values_after t (events_of events)))) (weights : AreWeights (sampled_func t 0)) (shape : (sampled_func t 0).shape ≡ shape_of t.model) where
  known : IsModel t.model
  known = legal.file.task.model

  sound : IsSound (task_of t) (replay (task_of t) (opening (task_of t)) (events_of events))
  sound = (legal_runs_keep_their_word t legal.file.task (events_of events) (logs_of transcript) legal.legal).0

  values_are : AreValuesOfEditions (events_of events) (Some (values_after t (events_of events)))
  values_are =
      let all = values_within (problem t.model) (weights_at t 0) (editions (replay (task_of t) (opening (task_of t)) (events_of events))) (total_some t.model known (sampled_func t 0) weights shape)
      (least_return_from t.model known) (least_return_to t.model known) (top_to t.model known) sound.ranged in
      let long : length (values_after t (events_of events)) ≡ length (editions (replay (task_of t) (opening (task_of t)) (events_of events))) = length-map _ _ in
      let number = edition_number source t events values transcript legal.file in
      (long ∙ number, count, all)

  pub migrated_form : IsInForm (length t.model.actions) (count_of (sizes_of t.model.sights)) (migrated_contents t events transcript)
  migrated_form =
      let form = legal.file.form in
      record {
        few_actions = form.few_actions;
        few_joint = form.few_joint;
        model = form.model;
        options = form.options;
        move_count = form.move_count;
        moves = form.moves;
        event_count = form.event_count;
        events = form.events;
        values = values_are;
        log_count = form.log_count;
        logs = form.logs;
        names = form.names;
      }

pub migrated_files_are_legal : MigratedFilesAreLegal
migrated_files_are_legal source text m = record {
  file = record { text = m.is; task = m.plan.legal.file.task; reads = m.plan.legal.file.reads; form = m.form };
  legal = m.plan.legal.legal;
  true_values = refl;
}

pub files_with_values_stay : FilesWithValuesStay
files_with_values_stay source text m values is =
    let p = m.plan in
    let same : values ≡ values_after p.task (events_of p.events) = subst (λ (o : Option (List ℤ)). AreTrueValues p.task p.events o) is p.legal.true_values in
    m.is ∙ (λ h. plan_text (contents_of (model_bytes p.task.model) p.task p.events (Some (sym same h)) p.transcript))
    ∙ (λ h. plan_text (contents_of (model_bytes p.task.model) p.task p.events (sym is h) p.transcript)) ∙ sym p.legal.file.text
