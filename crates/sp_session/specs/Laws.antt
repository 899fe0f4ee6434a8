-- The laws of sessions, as the functions of this crate state them.
use Rattle.std.specs.Prelude.{◌≡◌, suc, ◌≤◌, List, length, slice_get, Some}
use Rattle.sp_theory.specs.Values.{Edition}
use Rattle.sp_theory.specs.Agreement.{EditionsAgree}
use Rattle.sp_theory.specs.Logs.{all_of, opening_session, IsLog, IsLegalLog}
use Rattle.sp_theory.specs.SessionLaws.{AllTold, AreOf}
use Rattle.sp_model.specs.Problem.{problem}
use Rattle.sp_value.specs.Editions.{EditionParts, members_in}
use Rattle.sp_session.specs.Sessions.{SessionParts, IsSession, session_of, shelf_of, closed_log}

-- a session of a run with these editions: those that it answered on stand there at their numbers, and each number that it was told is of one
pub record IsSessionIn (editions : List Edition) (s : SessionParts) : Type 0 where
  pub session : IsSession s
  pub answered : AreOf (problem s.task.model) editions (shelf_of s.editions)
  pub told : AllTold (all_of editions) s.entries

-- the log of a session is one of the run
abbrev pub SessionsAreOfRuns : Type 0
SessionsAreOfRuns = (editions : List Edition) (s : SessionParts) → IsSessionIn editions s
    → IsLog (problem s.task.model) (all_of editions) (opening_session (problem s.task.model)) s.entries

-- an edition is the last of a run with these editions
pub record IsLastOf (editions : List Edition) (e : EditionParts) : Type 0 where
  pub last : suc e.number ≡ length editions
  pub there : (other : Edition) × (slice_get editions e.number ≡ Some other) × EditionsAgree (problem e.task.model) (members_in e) other

-- with the closing answer on the last edition the log is legal
abbrev pub ClosedLogsAreLegal : Type 0
ClosedLogsAreLegal = (editions : List Edition) (s : SessionParts) (last : EditionParts) → IsSessionIn editions s → IsLastOf editions last → last.task ≡ s.task
    → (session_of s).newest ≤ last.number
    → IsLegalLog (problem s.task.model) editions (closed_log s last).entries
