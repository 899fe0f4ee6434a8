-- The laws of sessions.
use Rattle.std.proofs.Common.{ap, subst, refl}
use Rattle.sp_theory.specs.Model.{Model}
use Rattle.sp_theory.specs.Agreement.{EditionsAgree}
use Rattle.sp_theory.specs.Logs.{Entry, closing, Session, all_of, opening_session, MayEnter, after_entry, IsAnswer}
use Rattle.sp_theory.proofs.Agreement.{greatest_member_agrees}
use Rattle.sp_theory.proofs.LogLemmas.{seen_logs_are_of_runs}
use Rattle.sp_model.specs.declared.parts.Parts.{Parts}
use Rattle.sp_model.specs.Problem.{problem}
use Rattle.sp_value.specs.Tasks.{TaskParts}
use Rattle.sp_value.specs.Editions.{members_in}
use Rattle.sp_session.specs.Sessions.{session_of, shelf_of, answering_member}
use Rattle.sp_session.specs.Laws.{SessionsAreOfRuns, ClosedLogsAreLegal}
use Rattle.sp_session.proofs.Entering.{session_after-append, log_append}

pub sessions_are_of_runs : SessionsAreOfRuns
sessions_are_of_runs editions s is = seen_logs_are_of_runs (problem s.task.model) editions (shelf_of s.editions) is.answered (opening_session (problem s.task.model)) s.entries is.told is.session.log

pub closed_logs_are_legal : ClosedLogsAreLegal
unfolding MayEnter after_entry
closed_logs_are_legal editions s e is last same less = (
  log_append m (all_of editions) (opening_session m) s.entries entry (sessions_are_of_runs editions s is) (is.session.going, less, last.last, answer),
  ap (λ (t : Session). t.closed) (session_after-append m (opening_session m) s.entries entry),
)
  where
    m : Model
    m = problem s.task.model

    entry : Entry
    entry = closing e.number (answering_member s e).id (answering_member s e).action

    agree : EditionsAgree m (members_in e) last.there.0
    agree = subst (λ (p : Parts). EditionsAgree (problem p) (members_in e) last.there.0) (ap (λ (t : TaskParts). t.model) same) last.there.2

    answer : IsAnswer m (all_of editions) (session_of s).weights e.number (answering_member s e).id (answering_member s e).action
    answer =
        let both = greatest_member_agrees m (members_in e) last.there.0 (session_of s).weights (session_of s).weights agree (λ x p. refl) in
        (last.there.0, last.there.1, both.0, both.1)
