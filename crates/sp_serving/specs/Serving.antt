-- What contracts see of the serving of a script, and what its type keeps.
use Rattle.std.specs.Prelude.{◌≡◌, ℕ, ◌<◌, ◌≤◌, List, [], ◌∷◌, ◌++◌, map, length, get_or, set, All, IsSome, true}
use Rattle.sp_theory.specs.Points.{count_of}
use Rattle.sp_theory.specs.Logs.{Log}
use Rattle.sp_model.specs.declared.parts.Parts.{Parts}
use Rattle.sp_model.specs.Problem.{sizes_of, problem}
use Rattle.sp_value.specs.Tasks.{TaskParts, IsTask}
use Rattle.sp_value.specs.Editions.{EditionParts, members_in}
use Rattle.sp_session.specs.Sessions.{SessionParts, IsEntryOf, session_of}
use Rattle.sp_script.specs.declared.command.Command.{Command}
use Rattle.sp_script.specs.Commands.{name_of, verb_of, is_observing, AreCommands}
use Rattle.sp_script.specs.Laws.{IsObservationWithin}
use Rattle.sp_serving.specs.Replies.{Shown, log_after_command, logs_with, logs_after, closed_on}
use Rattle.sp_serving.specs.Progress.{AreUnderWay}

-- ---- sessions
-- the log of a session so far
abbrev pub log_in : SessionParts → Log
log_in s = record { name = s.name; entries = s.entries }

-- an edition with its number, as sessions see it
abbrev pub shown_in : EditionParts → Shown
shown_in e = (e.number, members_in e)

-- the actions and the observations of a log are of the model
abbrev pub HasEntriesOf : Parts → Log → Type 0
HasEntriesOf p log = All (IsEntryOf p) log.entries

-- a session of the task that has seen no edition after that number
pub record IsSeatOf (t : TaskParts) (n : ℕ) (s : SessionParts) : Type 0 where
  pub task : s.task ≡ t
  pub newest : (session_of s).newest ≤ n

-- a command that a session may be given: where it observes, the observation is of the model, and an answer came before it
pub record IsFor (s : SessionParts) (c : Command) : Type 0 where
  pub within : IsObservationWithin (count_of (sizes_of s.task.model.sights)) c
  pub answered : is_observing (verb_of c) ≡ true → IsSome (session_of s).acted

-- a session of the command's name has replied to it, and the others are as they were
pub record IsRepliedIn (shown : Shown) (c : Command) (sessions later : List SessionParts) : Type 0 where
  pub place : ℕ
  pub before : SessionParts
  pub reply : SessionParts
  pub within : place < length sessions
  pub there : get_or sessions place before ≡ before
  pub name : before.name ≡ name_of c
  pub log : log_in reply ≡ log_after_command (problem before.task.model) shown c (log_in before)
  pub task : reply.task ≡ before.task
  pub is : later ≡ set sessions place reply

-- ---- the serving
pub record ServingParts : Type 0 where
  pub task : TaskParts
  -- the commands that were served, and those that are left
  pub served : List Command
  pub left : List Command
  -- the number of the newest edition on which a command was served, first 0
  pub newest : ℕ
  -- the logs so far, in order of opening
  pub logs : List Log

-- what its type keeps
pub record IsServing (s : ServingParts) : Type 0 where
  pub task : IsTask s.task
  pub commands : AreCommands (s.served ++ s.left)
  pub within : All (IsObservationWithin (count_of (sizes_of s.task.model.sights))) (s.served ++ s.left)
  pub under : AreUnderWay (problem s.task.model) s.served s.newest s.logs

-- before any command
abbrev pub first_serving : TaskParts → List Command → ServingParts
first_serving t cs = record { task = t; served = []; left = cs; newest = 0; logs = [] }

-- after the first of the commands that are left, on an edition; with none left it stays
abbrev pub after_first : ServingParts → Shown → List Command → ServingParts
after_first s shown [] = s
after_first s shown (c ∷ rest) = record s { served = s.served ++ c ∷ []; left = rest; newest = shown.0; logs = logs_with (problem s.task.model) shown s.logs c }

abbrev pub with_next : ServingParts → Shown → ServingParts
with_next s shown = after_first s shown s.left

-- the logs with all commands that are left served on an edition, and the closing answers on it
abbrev pub finished_logs : ServingParts → Shown → List Log
finished_logs s last = map (closed_on (problem s.task.model) last) (logs_after (problem s.task.model) [] last s.logs s.left)
