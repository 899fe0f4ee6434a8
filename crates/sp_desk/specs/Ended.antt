-- The closing answers of a desk, and what holds of its logs then.
use Rattle.std.specs.Prelude.{◌≡◌, ◌≤◌, List, map, Some}
use Rattle.sp_theory.specs.Values.{Edition}
use Rattle.sp_theory.specs.Agreement.{AllAgree}
use Rattle.sp_theory.specs.Logs.{Log, IsLegalTranscript}
use Rattle.sp_model.specs.Problem.{problem}
use Rattle.sp_value.specs.Tasks.{TaskParts}
use Rattle.sp_value.specs.Editions.{EditionParts, members_in}
use Rattle.sp_publish.specs.Published.{PublishedList, newest_in}
use Rattle.sp_session.specs.Sessions.{session_of, closed_log}
use Rattle.sp_desk.specs.declared.seats.Seat.{Seat}

-- the session can close on an edition
pub record MayCloseOn (e : EditionParts) (s : Seat) : Type 0 where
  pub task : e.task ≡ s.session.task
  pub newest : (session_of s.session).newest ≤ e.number

-- the logs of sessions with their closing answers on an edition
abbrev pub closed_logs : List Seat → EditionParts → List Log
closed_logs seats last = map (λ s. closed_log s.session last) seats

-- the last edition of the list is the one that they are closed on
abbrev pub AreClosedOn : List Seat → PublishedList → List Log → Type 0
AreClosedOn seats end logs = (last : EditionParts) × (newest_in end ≡ Some last) × (logs ≡ closed_logs seats last)

-- the logs are legal for each run whose editions are those of the list
abbrev pub AreLegalOver : TaskParts → PublishedList → List Log → Type 0
AreLegalOver t p logs = (editions : List Edition) → AllAgree (problem t.model) (map members_in p.editions) editions → IsLegalTranscript (problem t.model) editions logs
