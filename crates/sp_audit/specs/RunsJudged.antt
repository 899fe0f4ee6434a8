-- A whole run judged.
use Rattle.std.specs.Prelude.{◌≡◌, ℕ, ◌+◌, List, true}
use Rattle.sp_theory.specs.Book.{Event}
use Rattle.sp_value.specs.Tasks.{TaskParts, task_of}
use Rattle.sp_faults.specs.RunFaults.{IsWrongRun}
use Rattle.sp_audit.specs.declared.runs.JudgedRun.{JudgedRun}
use Rattle.sp_audit.specs.declared.runs.JudgedRun.TheVariants.{Legal, Wrong}
use Rattle.sp_audit.specs.States.{contents, IsStateAfter}
use Rattle.sp_audit.specs.Clauses.{clause_of}

-- the events are those of a run that is over; or they are wrong at the event of that number, by that clause
abbrev pub IsRunJudged : TaskParts → List Event → JudgedRun → Type 0
IsRunJudged t es (Legal state) = IsStateAfter es (contents state) × ((contents state).task ≡ t) × (state.done ≡ true)
IsRunJudged t es (Wrong n w) = (i : ℕ) × (n ≡ i + 1) × IsWrongRun (task_of t) es i (clause_of w)
