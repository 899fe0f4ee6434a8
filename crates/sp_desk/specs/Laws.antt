-- The laws of desks, as the functions of this crate state them.
use Rattle.std.specs.Prelude.{◌≡◌, Some, length}
use Rattle.sp_value.specs.Editions.{EditionParts}
use Rattle.sp_publish.specs.Published.{newest_in}
use Rattle.sp_script.specs.Served.{AreServed}
use Rattle.sp_desk.specs.Desks.{DeskParts, IsDesk}
use Rattle.sp_desk.specs.Ended.{closed_logs, AreLegalOver}
use Rattle.sp_desk.specs.Runs.{DeskRunParts, IsDeskRun}

-- the logs of a desk's sessions, with the closing answers on the last edition that it knows of, are legal for each run with the editions that it knows of
abbrev pub DesksAreLegal : Type 0
DesksAreLegal = (d : DeskParts) (last : EditionParts) → IsDesk d → newest_in d.known ≡ Some last → AreLegalOver d.task d.known (closed_logs d.seats last)

-- once no command of a script is left, the logs with the closing answers on any edition serve it
abbrev pub DeskRunsServe : Type 0
DeskRunsServe = (r : DeskRunParts) (last : EditionParts) → IsDeskRun r → r.served ≡ length r.commands → AreServed r.commands (closed_logs r.desk.seats last)
