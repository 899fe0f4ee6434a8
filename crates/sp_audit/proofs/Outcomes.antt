-- What a run that is over amounts to, and its logs judged on the editions that are kept.
use Rattle.std.proofs.Common.{◌≡◌, ◌∙◌, sym, ap, subst, refl, arith, ℕ, ◌-◌, ◌<◌, List, [], length, map, get_or, true, Some, None}
use Rattle.std.specs.Prelude.{ℤ, slice_get}
use Rattle.std.proofs.lemmas.List.{length-map, get_or-map}
use Rattle.std.proofs.lemmas.Option.{slice_get_within, get_or_from_slice_get}
use Rattle.sp_theory.specs.Values as theory
use Rattle.sp_theory.specs.Agreement.{AllAgree, EditionsAgree}
use Rattle.sp_theory.specs.Book.{Event}
use Rattle.sp_theory.specs.Logs.{Log}
use Rattle.sp_model.specs.Problem.{problem}
use Rattle.sp_value.specs.Tasks.{TaskParts, task_of}
use Rattle.sp_value.specs.Editions.{EditionParts, members_in}
use Rattle.sp_ledger.specs.Opening.{AreNumbered}
use Rattle.sp_faults.proofs.LogLemmas.{at_agrees, length-agrees}
use Rattle.sp_first_values.specs.FirstValues.{own_value}
use Rattle.sp_first_values.proofs.Opening.{own_values, values_same}
use Rattle.sp_audit.specs.declared.logs.WrongLog.{WrongLog}
use Rattle.sp_audit.specs.Clauses.{clause_of}
use Rattle.sp_audit.specs.Seats.{AreOfModel, editions_in}
use Rattle.sp_audit.specs.Logs.{AreLogsJudged}
use Rattle.sp_audit.specs.States.{ReplayContents, IsStateAfter}
use Rattle.sp_audit.specs.ReplayParts.{ReplayParts, IsReplay}
use Rattle.sp_audit.specs.Verdicts.{AreLegal, AreWrong, run_editions}
use Rattle.sp_audit.specs.Replays.{IsReplayOf, IsLastEdition}
use Rattle.sp_audit.proofs.Reading.{some_edition}
use Rattle.sp_audit.proofs.Transcripts.{legal_too, wrong_too}
use Rattle.sp_audit.proofs.WholeRuns.{replayed_is_legal}

module _ (c : ReplayContents) (es : List Event) (state : IsStateAfter es c) where
  pub of_model : AreOfModel c.task.model c.editions
  of_model k d less = ap (λ (t : TaskParts). t.model) (state.numbered k d less).1

  agree : AllAgree (problem c.task.model) (editions_in c.editions) (run_editions (task_of c.task) es)
  agree = state.replayed.account.editions

  -- ---- the replay
  module _ (r : ReplayParts) (editions : r.editions ≡ c.editions) (values : r.values ≡ map own_value c.editions) where
    pub keeps_replay : IsReplay r
    keeps_replay = record {
      some = subst (λ (xs : List EditionParts). 0 < length xs) (sym editions) (some_edition es c state);
      count = ap (λ (zs : List ℤ). length zs) values ∙ length-map c.editions own_value ∙ ap (λ (xs : List EditionParts). length xs) (sym editions);
    }

    pub is_replay_of : r.task ≡ c.task → IsReplayOf c.task es r
    is_replay_of task = record {
      task = task;
      numbered = subst (AreNumbered c.task) (sym editions) state.numbered;
      editions = subst (λ (xs : List EditionParts). AllAgree (problem c.task.model) (map members_in xs) (run_editions (task_of c.task) es)) (sym editions) agree;
      values = values ∙ own_values c.task c.editions (λ k d less. (state.numbered k d less).1) ∙ values_same c.task (map members_in c.editions) (run_editions (task_of c.task) es) agree;
    }

  -- ---- the logs
  module _ (over : c.done ≡ true) (logs : List Log) where
    pub logs_legal : AreLogsJudged (problem c.task.model) (editions_in c.editions) logs None → AreLegal (task_of c.task) es logs
    logs_legal judged = record {
      run = replayed_is_legal c es state over c.task refl;
      transcript = legal_too (problem c.task.model) (editions_in c.editions) (run_editions (task_of c.task) es) agree logs judged;
    }

    pub logs_wrong : (w : WrongLog) → AreLogsJudged (problem c.task.model) (editions_in c.editions) logs (Some w) → AreWrong (task_of c.task) es logs (Some w.session) w.entry (clause_of w.clause)
    logs_wrong w (i, is, wrong) =
        (replayed_is_legal c es state over c.task refl, i, is, wrong_too (problem c.task.model) (editions_in c.editions) (run_editions (task_of c.task) es) agree logs w.session i (clause_of w.clause) wrong)

-- ---- the last edition of a replay
pub last_is : (t : TaskParts) (es : List Event) (r : ReplayParts) → IsReplayOf t es r → (e : EditionParts) → slice_get r.editions (length r.editions - 1) ≡ Some e → IsLastEdition t es e
last_is t es r is e at = record {
  task = sym (ap (λ (x : EditionParts). x.task) got) ∙ known.1;
  last = (let long = length-map r.editions members_in in let same = length-agrees (problem t.model) (map members_in r.editions) (run_editions (task_of t) es) is.editions in omega (arith, number, less, long, same));
  members = subst (λ (n : ℕ). EditionsAgree (problem t.model) (members_in e) (get_or (run_editions (task_of t) es) n [])) (sym number)
      (subst (λ (x : theory.Edition). EditionsAgree (problem t.model) x (get_or (run_editions (task_of t) es) (length r.editions - 1) [])) (get_or-map members_in r.editions (length r.editions - 1) e [] less ∙ ap members_in got)
      (at_agrees (problem t.model) (map members_in r.editions) (run_editions (task_of t) es) is.editions (length r.editions - 1)));
}
  where
    less : length r.editions - 1 < length r.editions
    less = slice_get_within r.editions (length r.editions - 1) e at

    got : get_or r.editions (length r.editions - 1) e ≡ e
    got = get_or_from_slice_get r.editions (length r.editions - 1) e e at

    known : ((get_or r.editions (length r.editions - 1) e).number ≡ length r.editions - 1) × ((get_or r.editions (length r.editions - 1) e).task ≡ t)
    known = is.numbered (length r.editions - 1) e less

    number : e.number ≡ length r.editions - 1
    number = sym (ap (λ (x : EditionParts). x.number) got) ∙ known.0
