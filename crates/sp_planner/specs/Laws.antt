-- The laws of finished books, as the functions of this crate state them.
use Rattle.std.specs.Prelude.{◌≡◌, true}
use Rattle.sp_value.specs.declared.tasks.Options.{Options}
use Rattle.sp_model.specs.declared.parts.Parts.{Parts}
use Rattle.sp_choose.specs.Machines.{Machine}
use Rattle.sp_value.specs.Tasks.{task_of}
use Rattle.sp_core.specs.Books.{BookParts, IsBook, state_of}
use Rattle.sp_core.specs.Opening.{first_parts}
use Rattle.sp_planner.specs.Planned.{IsTaskFor, IsPlanned, IsTrusted, picking_words}
use Rattle.sp_planner.specs.Turns.{IsRun}

-- the book of a task that was opened for a plan, and finished with or without pruning as its options say, is what one thread plans
abbrev pub FinishedBooksArePlanned : Type 0
FinishedBooksArePlanned = (p : Parts) (o : Options) (chooser : Machine) (b d : BookParts) → IsTaskFor p o chooser b.task → b ≡ first_parts b.task → IsRun o.prune b (picking_words o) d
    → IsPlanned p o chooser d.task d.history

-- a book that is done may be trusted, by whomever its events were made
abbrev pub FinishedBooksAreTrusted : Type 0
FinishedBooksAreTrusted = (b : BookParts) → IsBook b → (state_of b).done ≡ true → IsTrusted (task_of b.task) b.history
