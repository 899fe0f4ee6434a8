-- How the serving of a script is kept.
use Rattle.std.specs.Prelude.{◌≡◌, ◌≤◌, ℕ, List, map, take, drop, length, All}
use Rattle.std.specs.Arc.{arc_value}
use Rattle.sp_value.specs.Tasks.{TaskParts}
use Rattle.sp_session.specs.Sessions.{SessionParts}
use Rattle.sp_script.specs.declared.command.Command.{Command}
use Rattle.sp_serving.specs.declared.serving.Serving.TheInside.{Inside}
use Rattle.sp_serving.specs.Serving.{ServingParts, IsServing, log_in}

-- what contracts see of a script of which so many commands were served
abbrev pub parts_of : TaskParts → List Command → ℕ → ℕ → List SessionParts → ServingParts
parts_of t cs count newest sessions = record { task = t; served = take count cs; left = drop count cs; newest = newest; logs = map log_in sessions }

-- the sessions are of the task, and their logs are those that the served commands lead to
pub record IsKeptBy (t : TaskParts) (cs : List Command) (count newest : ℕ) (sessions : List SessionParts) : Type 0 where
  pub serving : IsServing (parts_of t cs count newest sessions)
  pub within : count ≤ length cs
  pub tasks : All (λ session. session.task ≡ t) sessions

abbrev pub parts_in : Inside → ServingParts
parts_in s = parts_of (arc_value s.task) s.commands s.count s.newest s.sessions.items

abbrev pub IsKeptInside : Inside → Type 0
IsKeptInside s = IsKeptBy (arc_value s.task) s.commands s.count s.newest s.sessions.items
