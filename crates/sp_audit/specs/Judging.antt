-- What an audit says of an event.
use Rattle.std.specs.Prelude.{List, Option, Some, None}
use Rattle.sp_theory.specs.Book.{Event, opening}
use Rattle.sp_theory.specs.Runs.{replay}
use Rattle.sp_value.specs.Tasks.{task_of}
use Rattle.sp_faults.specs.Clauses as theory
use Rattle.sp_faults.specs.RunFaults.{EventBreaks}
use Rattle.sp_audit.specs.declared.clause.Clause.{Clause}
use Rattle.sp_audit.specs.Clauses.{clause_of}
use Rattle.sp_audit.specs.States.{ReplayContents, IsStateAfter, Follows}

-- after each run with these contents the event breaks that clause first
abbrev pub IsWrongNext : ReplayContents → Event → Clause → Type 0
IsWrongNext c x w = (es : List Event) → IsStateAfter es c → theory.IsFirstClause (EventBreaks (task_of c.task) (replay (task_of c.task) (opening (task_of c.task)) es) x) theory.event_clauses (clause_of w)

-- nothing is wrong with the event, which leads to the new contents; or it breaks that clause first
abbrev pub IsEventJudged : ReplayContents → Event → ReplayContents → Option Clause → Type 0
IsEventJudged c x d None = Follows c x d
IsEventJudged c x d (Some w) = IsWrongNext c x w
