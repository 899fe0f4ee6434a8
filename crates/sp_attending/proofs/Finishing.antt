-- The logs of a script that was served while one thread planned.
use Rattle.std.proofs.Common.{◌≡◌, ◌∙◌, sym, ap, subst, refl, arith, ℕ, ◌-◌, ◌<◌, ◌≤◌, Bool, List, [], ◌∷◌, map, length, length-append, Some}
use Rattle.std.specs.Prelude.{All, slice_get}
use Rattle.sp_theory.specs.Points.{count_of}
use Rattle.sp_theory.specs.Book.{Book, opening, editions}
use Rattle.sp_theory.specs.Runs.{replay}
use Rattle.sp_theory.specs.Logs.{Log}
use Rattle.sp_theory.specs.Agreement.{EditionsAgree}
use Rattle.sp_theory.proofs.LogLemmas.{edition_same}
use Rattle.sp_model.specs.Problem.{problem, sizes_of}
use Rattle.sp_value.specs.Tasks.{TaskParts, task_of}
use Rattle.sp_value.specs.Editions.{EditionParts, members_in}
use Rattle.sp_core.specs.Books.{BookParts, IsBook, state_of}
use Rattle.sp_core.specs.Marks.{marks_of}
use Rattle.sp_planner.specs.Turns.{IsRun}
use Rattle.sp_planner.specs.Pauses.{pauses, IsServed}
use Rattle.sp_planner.proofs.Backing.{edition_count, latest_number, latest_task, latest_agrees}
use Rattle.sp_script.specs.declared.command.Command.{Command}
use Rattle.sp_script.specs.Commands.{AreCommands}
use Rattle.sp_script.specs.Laws.{IsObservationWithin}
use Rattle.sp_serving.specs.Replies.{Shown, newest_of, closed_on, logs_after, transcript_of}
use Rattle.sp_serving.specs.Laws.{ShownAgree}
use Rattle.sp_serving.specs.Serving.{ServingParts, first_serving, finished_logs, shown_in}
use Rattle.sp_attending.specs.Attending.{IsServedOn}
use Rattle.sp_attending.specs.Runs.{shown_at, planned_logs, IsServedPlan}
use Rattle.sp_serving.proofs.Transcripts.{transcripts_serve, transcripts_are_legal, transcripts_agree, names_are_different}
use Rattle.sp_attending.proofs.Leading.{editions_at, some_edition, Leads, pauses_lead, leads_show}
use Rattle.sp_attending.proofs.Chain.{IsChained, chain}

shown_same : (t : TaskParts) (xs : List Shown) → ShownAgree (problem t.model) xs xs
shown_same t [] = tt
shown_same t (x ∷ xs) = (refl, edition_same (problem t.model) x.1, shown_same t xs)

module _ (b d : BookParts) (pruning : Bool) (words : List ℕ) (cs : List Command) (run : IsRun pruning b words d) (e : ServingParts)
    (served : IsServed IsServedOn b.task (pauses (task_of b.task) pruning b.history (marks_of b.taken) words) (first_serving b.task cs) e) where
  leads : Leads b.history (pauses (task_of b.task) pruning b.history (marks_of b.taken) words) d.history
  leads = pauses_lead (task_of b.task) pruning b.history (marks_of b.taken) words d.history run.history

  pub chained : IsChained b.task (pauses (task_of b.task) pruning b.history (marks_of b.taken) words) d.history (first_serving b.task cs) e
  chained = chain b.task b.history (pauses (task_of b.task) pruning b.history (marks_of b.taken) words) d.history (first_serving b.task cs) e leads refl (some_edition (task_of b.task) b.history) served

  state_is : replay (task_of b.task) (opening (task_of b.task)) d.history ≡ state_of d
  state_is = ap (λ (u : TaskParts). replay (task_of u) (opening (task_of u)) d.history) (sym run.task)

  module _ (known : IsBook d) (last : EditionParts) (at : slice_get d.editions (length d.editions - 1) ≡ Some last) where
    -- the last edition may be answered on
    pub last_task : last.task ≡ e.task
    last_task = latest_task d known last at ∙ run.task ∙ sym chained.task

    pub last_newest : e.newest ≤ last.number
    last_newest =
        let number = latest_number d known last at in
        let count = edition_count d known in
        let less : e.newest < length (editions (state_of d)) = subst (λ (x : Book). e.newest < length (editions x)) state_is chained.newest in
        let all = length-append (state_of d).earlier ((state_of d).latest ∷ []) in
        omega (arith, number, less, all)

    agree : EditionsAgree (problem b.task.model) (members_in last) (state_of d).latest
    agree = subst (λ (u : TaskParts). EditionsAgree (problem u.model) (members_in last) (state_of d).latest) run.task (latest_agrees d known last at)

    logs_are : finished_logs e (shown_in last) ≡ planned_logs (task_of b.task) pruning b.history (marks_of b.taken) words d.history cs
    logs_are =
        (λ i. map (closed_on (problem (chained.task i).model) (shown_in last)) (logs_after (problem (chained.task i).model) [] (shown_in last) e.logs e.left))
        ∙ ap (map (closed_on (problem b.task.model) (shown_in last))) (chained.logs (shown_in last))
        ∙ transcripts_agree (problem b.task.model) shown shown (shown_in last) (newest_of (state_of d)) (shown_same b.task shown) (latest_number d known last at) agree cs
        ∙ ap (λ (x : Book). transcript_of (problem b.task.model) shown (newest_of x) cs) (sym state_is)
      where
        shown : List Shown
        shown = shown_at (task_of b.task) (pauses (task_of b.task) pruning b.history (marks_of b.taken) words)

    pub served_plan : AreCommands cs → All (IsObservationWithin (count_of (sizes_of b.task.model.sights))) cs → (logs : List Log) → logs ≡ finished_logs e (shown_in last) → IsServedPlan (task_of b.task) pruning b.history (marks_of b.taken) words d.history cs logs
    unfolding problem
    served_plan are within logs same =
        subst (IsServedPlan (task_of b.task) pruning b.history (marks_of b.taken) words d.history cs) (sym (same ∙ logs_are)) (record {
          is = refl;
          legal = transcripts_are_legal (problem b.task.model) (editions_at (task_of b.task) d.history) shown last_of cs are within
              (leads_show (task_of b.task) 0 b.history (pauses (task_of b.task) pruning b.history (marks_of b.taken) words) d.history leads (some_edition (task_of b.task) b.history));
          served = transcripts_serve (problem b.task.model) shown last_of cs are;
          different = names_are_different (problem b.task.model) shown last_of cs are;
        })
      where
        shown : List Shown
        shown = shown_at (task_of b.task) (pauses (task_of b.task) pruning b.history (marks_of b.taken) words)

        last_of : Shown
        last_of = newest_of (replay (task_of b.task) (opening (task_of b.task)) d.history)
