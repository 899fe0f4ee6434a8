-- What contracts see of a script under way at a desk, and what its type keeps.
use Rattle.std.specs.Prelude.{◌≡◌, ℕ, ◌+◌, ◌-◌, ◌≤◌, true, false, List, take, length, slice_get, Some, All, IsSome}
use Rattle.sp_theory.specs.Points.{count_of}
use Rattle.sp_model.specs.Problem.{sizes_of}
use Rattle.sp_value.specs.Tasks.{TaskParts}
use Rattle.sp_publish.specs.Published.{PublishedList}
use Rattle.sp_session.specs.Sessions.{session_of}
use Rattle.sp_script.specs.declared.command.Command.{Command}
use Rattle.sp_script.specs.declared.command.Command.TheVariants.{Sync}
use Rattle.sp_script.specs.Commands as script
use Rattle.sp_script.specs.Commands.{AreCommands, has_answer, was_asked, is_opening, is_closing}
use Rattle.sp_script.specs.Laws.{IsObservationWithin}
use Rattle.sp_script.specs.Served.{opened_names, commands_of, AreReplies}
use Rattle.sp_serving.specs.Progress.{IsIdle}
use Rattle.sp_desk.specs.declared.seats.Seat.{Seat}
use Rattle.sp_desk.specs.Desks.{DeskParts, IsDesk, names_in}
use Rattle.sp_desk.specs.Serving.{HasServed}

-- the desk, all commands, and how many of them were served
pub record DeskRunParts : Type 0 where
  pub desk : DeskParts
  pub commands : List Command
  pub served : ℕ

-- what there is to do in all
abbrev pub work_of : DeskRunParts → List Command × TaskParts
work_of r = (r.commands, r.desk.task)

-- how many commands are left
abbrev pub left_of : DeskRunParts → ℕ
left_of r = length r.commands - r.served

-- a session after these commands: it is open where they say so, its log replies to its commands, and it has an answer to observe after where they say so
pub record IsSeatServed (before : List Command) (s : Seat) : Type 0 where
  pub is_open : s.is_open ≡ script.is_open s.session.name before
  pub replies : AreReplies (commands_of s.session.name before) s.session.entries
  pub answer : has_answer s.session.name before ≡ true → IsSome (session_of s.session).acted

-- the sessions of a desk after these commands are those that were opened, in order of opening; a name that wasn't opened has no command
pub record AreSeatsServed (before : List Command) (seats : List Seat) : Type 0 where
  pub names : names_in seats ≡ opened_names before
  pub each : All (IsSeatServed before) seats
  pub idle : (name : List ℕ) → was_asked is_opening name before ≡ false → IsIdle before name
  pub closed : (name : List ℕ) → was_asked is_opening name before ≡ false → was_asked is_closing name before ≡ false

-- what its type keeps
pub record IsDeskRun (r : DeskRunParts) : Type 0 where
  pub desk : IsDesk r.desk
  pub commands : AreCommands r.commands
  pub within : All (IsObservationWithin (count_of (sizes_of r.desk.task.model.sights))) r.commands
  pub count : r.served ≤ length r.commands
  pub after : AreSeatsServed (take r.served r.commands) r.desk.seats

-- the next command is a sync
abbrev pub AsksForNotice : DeskRunParts → Type 0
AsksForNotice r = (name : List ℕ) × (line : ℕ) × (slice_get r.commands r.served ≡ Some (Sync name line))

-- the next command was served
pub record ServesNext (r : DeskRunParts) (told : PublishedList) (after : DeskRunParts) : Type 0 where
  pub command : Command
  pub next : slice_get r.commands r.served ≡ Some command
  pub desk : HasServed r.desk command told after.desk
  pub commands : after.commands ≡ r.commands
  pub count : after.served ≡ r.served + 1
