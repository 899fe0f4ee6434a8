-- What holds of desks beside a book: when they are opened, when the run has ended, and of their logs.
use Rattle.std.specs.Prelude.{◌≡◌, ℕ, ◌<◌, true, false, List, length, map, slice_index_or, All}
use Rattle.logbook.specs.Pages as pages
use Rattle.sp_theory.specs.Book.{editions}
use Rattle.sp_theory.specs.Logs.{Log, IsLegalTranscript}
use Rattle.sp_model.specs.Problem.{problem}
use Rattle.sp_core.specs.Books.{BookParts, IsBook, state_of}
use Rattle.sp_publish.specs.Published.{PublishedList}
use Rattle.sp_session.specs.declared.logs.SessionLog.{SessionLog}
use Rattle.sp_session.specs.Logs.{logs_of}
use Rattle.sp_script.specs.declared.command.Command.{Command}
use Rattle.sp_script.specs.Served.{AreServed}
use Rattle.sp_serving.specs.Serving.{HasEntriesOf}
use Rattle.sp_desk.specs.Ended.{AreLegalOver}
use Rattle.sp_desk.specs.Runs.{DeskRunParts, left_of, work_of}
use Rattle.sp_workers.specs.Later.{StandsLater}
use Rattle.sp_concurrent.specs.declared.opening.Opened.{Opened}
use Rattle.sp_concurrent.specs.declared.planning.Ended.{Ended}

-- ---- the list
-- what a desk knows of its list
abbrev pub known_of : DeskRunParts → PublishedList
known_of r = r.desk.known

-- each desk is one of the list
abbrev pub AreOfList : pages.Book → List DeskRunParts → Type 0
AreOfList list runs = All (λ r. (known_of r).list ≡ list) runs

-- the list has edition 0 of the book alone, hasn't ended, and is that of the notice and of each desk; the desks are to serve these hands
pub record AreOpened (b : BookParts) (hands : List (List Command)) (o : Opened) : Type 0 where
  pub editions : o.publisher.editions ≡ b.editions
  pub going : o.publisher.ended ≡ false
  pub first : o.first.list ≡ o.publisher.list
  pub work : map work_of o.runs.items ≡ map (λ cs. (cs, b.task)) hands
  pub list : AreOfList o.publisher.list o.runs.items

-- the book of the task is done, the notice is that of the ended list of its editions, and each desk stands after some of its steps
pub record HasEnded (b : BookParts) (named : pages.Book) (runs : List DeskRunParts) (e : Ended) : Type 0 where
  pub task : e.book.task ≡ b.task
  pub known : IsBook e.book
  pub done : (state_of e.book).done ≡ true
  pub editions : e.end.editions ≡ e.book.editions
  pub ended : e.end.ended ≡ true
  pub list : e.end.list ≡ named
  pub count : length e.runs.items ≡ length runs
  pub later : (i : ℕ) (d : DeskRunParts) → i < length runs
      → StandsLater work_of known_of left_of (slice_index_or runs i d) (slice_index_or e.runs.items i d)

-- ---- logs
-- the logs serve the commands of a desk, are legal for each run whose editions are those of the list, and are of the desk's model
pub record IsClosed (end : PublishedList) (run : DeskRunParts) (logs : List SessionLog) : Type 0 where
  pub served : AreServed run.commands (logs_of logs)
  pub legal : AreLegalOver run.desk.task end (logs_of logs)
  pub entries : All (HasEntriesOf run.desk.task.model) (logs_of logs)

-- the logs serve the script, are legal for the run of the book, and are of its model
pub record AreServedBeside (b : BookParts) (cs : List Command) (logs : List Log) : Type 0 where
  pub served : AreServed cs logs
  pub legal : IsLegalTranscript (problem b.task.model) (editions (state_of b)) logs
  pub entries : All (HasEntriesOf b.task.model) logs
