-- Scripts that are served while one thread plans.
use Rattle.std.specs.Prelude.{◌≡◌, ◌≢◌, ℕ, List, map, Bool, AllPairs}
use Rattle.sp_theory.specs.Book.{Task, Event, opening, editions}
use Rattle.sp_theory.specs.Runs.{replay}
use Rattle.sp_theory.specs.OneThread.{Marks}
use Rattle.sp_theory.specs.Logs.{Log, IsLegalTranscript}
use Rattle.sp_value.specs.Tasks.{task_of}
use Rattle.sp_core.specs.Books.{BookParts}
use Rattle.sp_core.specs.Marks.{marks_of}
use Rattle.sp_planner.specs.Planned.{picking_words}
use Rattle.sp_planner.specs.Pauses.{pauses}
use Rattle.sp_script.specs.declared.command.Command.{Command}
use Rattle.sp_script.specs.Served.{AreServed}
use Rattle.sp_serving.specs.Replies.{Shown, newest_of, transcript_of}

-- the newest edition at each of these histories
abbrev pub shown_at : Task → List (List Event) → List Shown
shown_at t histories = map (λ history. newest_of (replay t (opening t) history)) histories

-- the logs of a script where one thread plans by some words from a history to a final one: a command is served at each pause while there are some,
-- and the rest on the last edition
abbrev pub planned_logs : Task → Bool → List Event → Marks → List ℕ → List Event → List Command → List Log
planned_logs t pruning history taken words final cs =
    transcript_of t.model (shown_at t (pauses t pruning history taken words)) (newest_of (replay t (opening t) final)) cs

-- the logs that a script has then. They are legal for the run, serve the script, and have different names
pub record IsServedPlan
    (t : Task) (pruning : Bool) (history : List Event) (taken : Marks) (words : List ℕ) (final : List Event) (cs : List Command) (logs : List Log)
    : Type 0 where
  pub is : logs ≡ planned_logs t pruning history taken words final cs
  pub legal : IsLegalTranscript t.model (editions (replay t (opening t) final)) logs
  pub served : AreServed cs logs
  pub different : AllPairs (λ x y. x ≢ y) (map (λ log. log.name) logs)

-- the logs where a book is planned to its end, as it then is
abbrev pub IsServedFrom : Bool → BookParts → BookParts → List Command → List Log → Type 0
IsServedFrom pruning b d cs logs =
    IsServedPlan (task_of b.task) pruning b.history (marks_of b.taken) (picking_words b.task.options) d.history cs logs
